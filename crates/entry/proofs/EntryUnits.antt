-- The octets of an entry's units are those of the entry: the front's, and then the rest's, with zeros behind them.
use Prim.Native.Nat.{ℕ, zero, suc, ◌+◌, ◌-◌, ◌*◌, ◌/◌, ◌%◌, ◌≤◌, ◌<◌}
use mathlib.Core.Path.{◌≡◌, refl, ap, sym, ◌∙◌}
use mathlib.Core.Bool.{true}
use mathlib.Core.List.{List, [], ◌∷◌, ◌++◌, map, map-append, append_assoc}
use native.Mathlib.Omega.{arith}
use borrow.Author.Tests.{lt-ltb}
use lib.ListN.{length, take, drop, replicate, length-append, length-map, length-take, length-drop, length-replicate}
use lib.ListN.{replicate-append-replicate}
use lib.Seq.{take_at, drop_at, take_all, take-add, take-append-le, length-take-le}
use Rattle.lent.specs.Copied.{copied, copied_at}
use Rattle.lent.proofs.Lists.{rest_all, copy_into}
use Rattle.zone.specs.Alphabet.{filler, is_character, is_filler, every, is_digit, is_letter}
use Rattle.zone.specs.Codes.{code_of}
use Rattle.zone.specs.Part as text
use Rattle.zone.specs.Record.{trimmed, padded, plain, held_rows}
use Rattle.field.specs.Rules.{rule_rows}
use Rattle.zone.specs.Rooms.{own_room, name_room}
use Rattle.zone.specs.declared.record.Record.{Record}
use Rattle.zone.proofs.Every.{every_append, every_replicate}
use Rattle.zone.proofs.Padded.{padded_trimmed, padded_exact, padded_spare}
use Rattle.sound.proofs.SoundRecord.{Sound}
use Rattle.cells.specs.Bits.{put, octets}
use Rattle.cells.specs.Cells.{put_all, put_cell, put_row, octets_of, rounded_up}
use Rattle.cells.proofs.Gather.{put_halves, length-put}
use Rattle.cells.proofs.BitsOfOctets.{is_bit, put_bits, put_followed, put_zeros}
use Rattle.cells.proofs.OctetsOfBits.{octets_append}
use Rattle.cells.proofs.Fitting.{is_held}
use Rattle.cells.proofs.Putting.{all_append, all_followed, all_bits, length-all}
use Rattle.cells.proofs.RowOctets.{length-octets, octets_cut, whole_octets, no_bits}
use Rattle.entry.specs.Codes.{form_code, sex_code}
use Rattle.entry.specs.Row.{row, cells}
use Rattle.entry.specs.Entry.{said, values, entry_of, size, is_house}
use Rattle.packing.specs.Packed.{on, packed, packed_over, packed_on_over}
use Rattle.entry.specs.Inner.Units.{front_octets, front_fours, front_units, rest_units}
use Rattle.entry.specs.Inner.Units.{all_units, all_octets, rest_fours, size_by}
use Rattle.entry.specs.Inner.Units.{before, front, spare, rest, units_of}
use Rattle.entry.proofs.Coded.{codes_held}
use Rattle.zone.proofs.FormTold.{entered_tells}
use Rattle.entry.proofs.Sexes.{sex_tells}
use Rattle.packing.proofs.Packing.{length-packed, pack_room, pack_on_room}
use Rattle.entry.proofs.Placing.{sound_before}
use Rattle.packing.proofs.UnitBits.{put_more, unit_left, octets_packed}
use Rattle.entry.proofs.Values.{house_range, own_coded, own_pure, name_taken, name_coded}

-- ---- house and form, and the sex

head_units : (house form : ℕ) (t : List ℕ) → form < 8
    → put 15 house (put 3 form t)
    ≡ put 6 ((house * 8 + form) / 4096) (put 6 ((house * 8 + form) / 64 % 64) (put 6 ((house * 8 + form) % 64) t))
head_units house form t h =
    let head = house * 8 + form in
    let high : head / 4096 ≡ head / 64 / 64 = omega arith in
    put_more 15 3 house form t h
    ∙ sym (ap (λ (x : ℕ). put 6 x (put 6 (head / 64 % 64) (put 6 (head % 64) t))) high
    ∙ put_halves 6 6 (head / 64) (put 6 (head % 64) t) ∙ put_halves 12 6 head t)

-- zero bits behind it to whole units
sex_units : (x : ℕ) (t : List ℕ) → put 6 (x * 16) (put 6 0 (put 6 0 t)) ≡ put 2 x (put 16 0 t)
sex_units x t =
    let q : ((x * 16) * 64 + 0) * 64 + 0 ≡ x * 65536 + 0 = omega arith in
    put_more 6 6 (x * 16) 0 (put 6 0 t) (omega arith) ∙ put_more 12 6 (x * 16 * 64 + 0) 0 t (omega arith)
    ∙ ap (λ (v : ℕ). put 18 v t) q ∙ sym (put_more 2 16 x 0 t (omega arith))

-- ---- the front in bits

abbrev head : ℕ → Record → ℕ
head house r = house * 8 + form_code r.form

abbrev opening : ℕ → Record → List ℕ → List ℕ
opening house r t =
    put_all 6 ((head house r / 4096) ∷ (head house r / 64 % 64) ∷ (head house r % 64) ∷ map code_of (before r))
    (put 2 (sex_code r.sex) t)

-- the codes of data and name, and their bits
abbrev owned : Record → List ℕ
owned r = map code_of (take r.own_len r.own)

abbrev named : Record → List ℕ
named r = map code_of (take r.name_len r.name)

abbrev rest_bits : Record → List ℕ
rest_bits r = put 5 (length (owned r)) (put_all 6 (owned r) (put 6 (length (named r)) (put_all 6 (named r) [])))

characters_put : (r : Record) (t : List ℕ)
    → put_all 6 (map code_of (before r)) t
    ≡ put_all 6 (map code_of r.state) (put_all 6 (map code_of r.number) (put_all 6 (map code_of r.birth)
    (put_all 6 (map code_of r.expiry) (put_all 6 (map code_of r.code) (put_all 6 (map code_of r.nationality) t)))))
unfolding before
characters_put r t = simp (map-append, all_append)

entry_opened : (house : ℕ) (r : Record) → put_row (cells row) (values row house r) [] ≡ opening house r (rest_bits r)
unfolding put_row put_cell put_all said held_rows
entry_opened house r =
    let t = put 2 (sex_code r.sex) (rest_bits r) in
    head_units house (form_code r.form) _ (entered_tells r.form).1
    ∙ ap (λ (l : List ℕ). put 6 (head house r / 4096) (put 6 (head house r / 64 % 64) (put 6 (head house r % 64) l)))
    (sym (characters_put r t))

units_opened : (house : ℕ) (r : Record) → put_all 6 (units_of house r) [] ≡ opening house r (put 16 0 (put_all 6 (rest r) []))
unfolding units_of front put_all
units_opened house r =
    let x = sex_code r.sex * 16 ∷ 0 ∷ 0 ∷ [] in
    ap (λ (l : List ℕ). put 6 (head house r / 4096) (put 6 (head house r / 64 % 64) (put 6 (head house r % 64) l)))
    (all_append 6 (map code_of (before r) ++ x) (rest r) [] ∙ all_append 6 (map code_of (before r)) x (put_all 6 (rest r) [])
    ∙ ap (put_all 6 (map code_of (before r))) (sex_units (sex_code r.sex) (put_all 6 (rest r) [])))

opening_followed : (house : ℕ) (r : Record) (t : List ℕ) → opening house r [] ++ t ≡ opening house r t
opening_followed house r t =
    all_followed 6 _ (put 2 (sex_code r.sex) []) t ∙ ap (put_all 6 _) (put_followed 2 (sex_code r.sex) [] t)

-- ---- fillers are zero bits

fillers_put : (m : ℕ) → put_all 6 (map code_of (replicate m filler)) [] ≡ replicate (6 * m) 0
unfolding put_all code_of is_digit is_letter
fillers_put zero = refl
fillers_put (suc m) =
    let e : 6 * suc m ≡ suc (suc (suc (suc (suc (suc (6 * m)))))) = omega arith in
    ap (put 6 0) (fillers_put m) ∙ put_zeros 6 (replicate (6 * m) 0) ∙ sym (ap (λ (k : ℕ). replicate k 0) e)

-- ---- how many characters data and name have, and the size by them

abbrev both : Record → ℕ
both r = r.own_len + r.name_len

pub both_most : (r : Record) → Sound r → both r ≤ own_room + name_room
both_most r s = omega (arith, s.own_most, s.name_most)

pub size_by_lem : (r : Record) → size_by (both r) ≡ size r
unfolding size
size_by_lem r = omega arith

-- ---- two lists put one behind the other over a third

front_and_rest : (z p r : List ℕ) (n q : ℕ) → n ≤ length p → length p ≤ length z → n + length r ≤ length z → q ≤ length r
    → take (n + q) (copied_at (copied z p) n r) ≡ take n p ++ take q r
front_and_rest z p r n q a b c d =
    let x = p ++ drop (length p) z in
    let whole : copied z p ≡ x = ap (λ (l : List ℕ). l ++ drop (length p) z) (take_all (length z) p b) in
    let long : length x ≡ length z = length-append p (drop (length p) z) ∙ omega (arith, length-drop (length p) z) in
    let first : take n x ≡ take n p = take-append-le n p (drop (length p) z) a in
    let f : length (take n p) ≡ n = length-take-le n p a in
    let y = drop n x in
    let t = drop (length r) y in
    let second : copied y r ≡ r ++ t = ap (λ (l : List ℕ). l ++ t) (take_all (length y) r (omega (arith, length-drop n x))) in
    ap (λ (l : List ℕ). take (n + q) (copied_at l n r)) whole
    ∙ ap (λ (l : List ℕ). take (n + q) (l ++ copied y r)) first
    ∙ ap (λ (l : List ℕ). take (n + q) (take n p ++ l)) second
    ∙ take-add n q (take n p ++ (r ++ t))
    ∙ rw (take_at (take n p) (r ++ t) n f, drop_at (take n p) (r ++ t) n f, take-append-le q r t d)

-- the rest is packed to the part behind the front's octets, which has room for it
pub units_packed : (octets units first back : List ℕ) (k : ℕ) → k ≤ own_room + name_room → length units ≡ all_units
    → length octets ≡ all_octets
    → first ≡ packed_over front_fours octets units
    → back ≡ packed_on_over (rest_fours k) (take (length first - front_octets) (drop front_octets first))
    (take (length units - front_units) (drop front_units units))
    → take front_octets first ++ (back ++ drop (length first - front_octets) (drop front_octets first))
    ≡ copied_at (copied octets (packed 0 front_fours units)) front_octets (packed on (rest_fours k) (drop front_units units))
units_packed octets units first back k h u o e f =
    let p = packed 0 front_fours units in
    let one : first ≡ copied octets p = e ∙ pack_room front_fours octets units (omega arith) (omega arith) in
    let x = take (length octets) p in
    let y = drop (length p) octets in
    let long : length first ≡ all_octets = ap length one ∙ length-append x y
    ∙ omega (arith, length-take (length octets) p, length-packed 0 front_fours units, length-drop (length p) octets) in
    let all : take (length units - front_units) (drop front_units units) ≡ drop front_units units = rest_all units front_units in
    let to = take (length first - front_octets) (drop front_octets first) in
    let room : length to ≡ all_octets - front_octets =
    ap length (rest_all first front_octets) ∙ length-drop front_octets first ∙ omega arith in
    let two : back ≡ copied to (packed on (rest_fours k) (drop front_units units)) = (rw all at f)
    ∙ pack_on_room (rest_fours k) to (drop front_units units) (omega (arith, length-drop front_units units)) (omega arith) in
    copy_into first front_octets (packed on (rest_fours k) (drop front_units units)) back two
    ∙ ap (λ (l : List ℕ). copied_at l front_octets (packed on (rest_fours k) (drop front_units units))) one

module _ (house : ℕ) (r : Record) (housed : is_house house ≡ true) (s : Sound r) where
  length-opening : length (opening house r []) ≡ 8 * front_octets
  length-opening =
      let x = (head house r / 4096) ∷ (head house r / 64 % 64) ∷ (head house r % 64) ∷ map code_of (before r) in
      length-all 6 x (put 2 (sex_code r.sex) [])
      ∙ omega (arith, length-put 2 (sex_code r.sex) [], length-map (before r) code_of, sound_before r s)

  octets_opened : (t : List ℕ) → octets (opening house r t) ≡ octets (opening house r []) ++ octets t
  octets_opened t =
      ap octets (sym (opening_followed house r t))
      ∙ octets_append front_octets (opening house r []) t (all_bits 6 _ _ (put_bits 2 (sex_code r.sex) [] no_bits))
      length-opening

  -- ---- the units

  length_front : length (front house r) ≡ front_units
  unfolding front
  length_front =
      let x = sex_code r.sex * 16 ∷ 0 ∷ 0 ∷ [] in
      omega (arith, length-append (map code_of (before r)) x, length-map (before r) code_of, sound_before r s)

  length_rest : length (rest r) ≡ rest_units
  unfolding rest
  length_rest =
      let x = r.name ++ replicate (spare r) filler in
      omega (
        arith,
        length-append (owned r) (r.name_len ∷ map code_of x),
        own_coded r s,
        s.own_most,
        length-map x code_of,
        length-append r.name (replicate (spare r) filler),
        length-replicate (spare r) filler,
        s.name_places,
      )

  length_units : length (units_of house r) ≡ all_units
  unfolding units_of
  length_units = length-append (front house r) (rest r) ∙ omega (arith, length_front, length_rest)

  rest_held : every (is_held 6) (rest r) ≡ true
  unfolding rest every is_held is_character is_filler is_digit is_letter
  rest_held =
      rw (lt-ltb r.own_len 64 (omega (arith, s.own_most)))
      (every_append (is_held 6) (owned r) _ (codes_held (take r.own_len r.own) (own_pure r s))
      (rw (lt-ltb r.name_len 64 (omega (arith, s.name_most)))
      (codes_held (r.name ++ replicate (spare r) filler)
      (every_append is_character r.name _ s.name_characters (every_replicate is_character (spare r) filler refl)))))

  units_held : every (is_held 6) (units_of house r) ≡ true
  unfolding units_of front before every is_held held_rows plain rule_rows
  units_held =
      let pure = s.characters in
      let sex = (sex_tells r.sex (s.kept text.sex refl)).1 in
      let form = (entered_tells r.form).1 in
      let most = (house_range house housed).1 in
      let characters : every is_character (before r) ≡ true =
      every_append is_character r.state _ (pure text.state refl)
      (every_append is_character r.number _ s.number_characters
      (every_append is_character r.birth _ (pure text.birth refl)
      (every_append is_character r.expiry _ (pure text.expiry refl)
      (every_append is_character r.code _ (pure text.code refl) (pure text.nationality refl))))) in
      every_append (is_held 6) (front house r) (rest r)
      (rw (
        lt-ltb (head house r / 4096) 64 (omega arith),
        lt-ltb (head house r / 64 % 64) 64 (omega arith),
        lt-ltb (head house r % 64) 64 (omega arith),
      )
      (every_append (is_held 6) (map code_of (before r)) (sex_code r.sex * 16 ∷ 0 ∷ 0 ∷ []) (codes_held (before r) characters)
      (rw (lt-ltb (sex_code r.sex * 16) 64 (omega arith)))))
      rest_held

  front_packed : take front_octets (packed 0 front_fours (units_of house r)) ≡ octets (opening house r [])
  front_packed =
      let u = units_of house r in
      let o = octets (opening house r []) in
      let t = put 16 0 (put_all 6 (rest r) []) in
      let p = packed 0 front_fours u in
      let more = octets (put_all 6 (drop (4 * front_fours) u) []) in
      let both : p ++ more ≡ o ++ octets t =
      sym (octets_packed 0 (omega arith) front_fours u [] units_held (omega (arith, length_units)) (λ i. omega (arith, i)))
      ∙ ap octets (units_opened house r) ∙ octets_opened t in
      let long : length o ≡ front_octets = length-octets (opening house r []) ∙ omega (arith, length-opening) in
      sym (take-append-le front_octets p more (omega (arith, length-packed 0 front_fours u))) ∙ ap (take front_octets) both
      ∙ take_at o (octets t) front_octets long

  -- ---- data and name, with fillers to the end of the units

  abbrev over : ℕ
  over = rest_units - 2 - r.own_len - r.name_len

  name_filled : r.name ++ replicate (spare r) filler ≡ take r.name_len r.name ++ replicate over filler
  unfolding trimmed
  name_filled =
      let n = r.name_len in
      let most = s.name_most in
      let x = take n r.name in
      let k = name_room - n in
      let all : k + spare r ≡ over = omega (arith, s.own_most) in
      let held : padded name_room x ≡ padded name_room r.name = rw s.name_ends at (padded_trimmed name_room r.name) in
      let name : r.name ≡ x ++ replicate k filler =
      sym (padded_exact name_room r.name s.name_places) ∙ sym held
      ∙ (rw (name_taken r s) at (padded_spare name_room x (omega (arith, name_taken r s)))) in
      ap (λ (l : List ℕ). l ++ replicate (spare r) filler) name
      ∙ (append_assoc x (replicate k filler) (replicate (spare r) filler)
      ∙ ap (λ (l : List ℕ). x ++ l) (replicate-append-replicate k (spare r) filler
      ∙ ap (λ (i : ℕ). replicate i filler) all))

  name_bits : put_all 6 (map code_of (r.name ++ replicate (spare r) filler)) [] ≡ put_all 6 (named r) (replicate (6 * over) 0)
  name_bits =
      ap (λ (l : List ℕ). put_all 6 (map code_of l) []) name_filled
      ∙ ap (λ (l : List ℕ). put_all 6 l []) (map-append code_of (take r.name_len r.name) (replicate over filler))
      ∙ all_append 6 (named r) (map code_of (replicate over filler)) [] ∙ ap (put_all 6 (named r)) (fillers_put over)

  -- what follows the rest's bits
  rest_followed : (z : List ℕ) → rest_bits r ++ z
      ≡ put 5 (length (owned r)) (put_all 6 (owned r) (put 6 (length (named r)) (put_all 6 (named r) z)))
  rest_followed z =
      put_followed 5 (length (owned r)) _ z
      ∙ ap (put 5 (length (owned r))) (all_followed 6 (owned r) _ z
      ∙ ap (put_all 6 (owned r)) (put_followed 6 (length (named r)) _ z
      ∙ ap (put 6 (length (named r))) (all_followed 6 (named r) [] z)))

  -- the first unit's first bit is left out
  rest_filled : drop on (put_all 6 (rest r) []) ≡ rest_bits r ++ replicate (6 * over) 0
  unfolding rest put_all
  rest_filled =
      let n = r.name_len in
      let x = map code_of (r.name ++ replicate (spare r) filler) in
      unit_left 1 r.own_len (put_all 6 (owned r ++ (n ∷ x)) []) (omega arith)
      ∙ ap (put 5 r.own_len) (all_append 6 (owned r) (n ∷ x) []
      ∙ ap (λ (l : List ℕ). put_all 6 (owned r) (put 6 n l)) name_bits)
      ∙ sym (rest_followed (replicate (6 * over) 0) ∙ rw (own_coded r s, name_coded r s))

  length-bits : length (rest_bits r) ≡ 11 + 6 * (r.own_len + r.name_len)
  length-bits =
      let y = put 6 (length (named r)) (put_all 6 (named r) []) in
      length-put 5 (length (owned r)) (put_all 6 (owned r) y)
      ∙ omega (
        arith,
        length-all 6 (owned r) y,
        own_coded r s,
        length-put 6 (length (named r)) (put_all 6 (named r) []),
        length-all 6 (named r) [],
        name_coded r s,
      )

  rest_bits_lem : every is_bit (rest_bits r) ≡ true
  rest_bits_lem =
      put_bits 5 (length (owned r)) _ (all_bits 6 (owned r) _ (put_bits 6 (length (named r)) _ (all_bits 6 (named r) [] no_bits)))

  rest_packed : take (rounded_up (length (rest_bits r))) (packed on (rest_fours (both r)) (rest r)) ≡ octets (rest_bits r)
  rest_packed =
      let b = rest_bits r in
      let k = rest_fours (both r) in
      let q = rounded_up (length b) in
      let p = packed on k (rest r) in
      let more = octets (drop on (put_all 6 (drop (4 * k) (rest r)) [])) in
      let most = both_most r s in
      let long = length-bits in
      let whole : p ++ more ≡ octets (b ++ replicate (6 * over) 0) =
      sym (octets_packed on (omega arith) k (rest r) [] rest_held (omega (arith, length_rest)) (λ i. omega (arith, length_rest)))
      ∙ ap octets rest_filled in
      sym (take-append-le q p more (omega (arith, length-packed on k (rest r)))) ∙ ap (take q) whole
      ∙ octets_cut b (6 * over) rest_bits_lem (omega (arith, whole_octets (length b)))

  -- ---- the whole

  -- the front, and the rest over what the front's fours have too many
  abbrev pub entry_octets : List ℕ
  entry_octets =
      copied_at (copied (replicate all_octets 0) (packed 0 front_fours (units_of house r))) front_octets
      (packed on (rest_fours (both r)) (drop front_units (units_of house r)))

  pub entry_packed : take (size r) entry_octets ≡ entry_of house r
  unfolding entry_of octets_of size units_of
  entry_packed =
      let u = units_of house r in
      let k = rest_fours (both r) in
      let q = rounded_up (length (rest_bits r)) in
      let p = packed 0 front_fours u in
      let most = both_most r s in
      let long = length-bits in
      let n : size r ≡ front_octets + q = omega arith in
      let back : drop front_units u ≡ rest r = drop_at (front house r) (rest r) front_units length_front in
      rw (n, back)
      (front_and_rest (replicate all_octets 0) p (packed on k (rest r)) front_octets q
      (omega (arith, length-packed 0 front_fours u))
      (omega (arith, length-packed 0 front_fours u, length-replicate {A = ℕ} all_octets 0))
      (omega (arith, length-packed on k (rest r), length-replicate {A = ℕ} all_octets 0))
      (omega (arith, length-packed on k (rest r)))
      ∙ rw (front_packed, rest_packed) (sym (ap octets (entry_opened house r) ∙ octets_opened (rest_bits r))))
