-- What is read of an entry whose octets stand alone, with zeros behind them: unit by unit the characters that its bits say, and
-- fillers behind its name. Data and name have n characters.
use Prim.Native.Nat.{ℕ, zero, suc, ◌+◌, ◌-◌, ◌*◌, ◌/◌, ◌%◌, ◌^◌, ◌≤◌, ◌<◌}
use mathlib.Core.Path.{◌≡◌, refl, ap, sym, ◌∙◌}
use mathlib.Core.Bool.{Bool, true, false}
use mathlib.Core.List.{List, ◌∷◌, ◌++◌, map, map-append, append_assoc}
use native.Mathlib.Nat.{zero-div}
use native.Mathlib.Omega.{arith}
use borrow.Author.Tests.{ltb-true, ltb-false}
use lib.Dec.{ltb}
use lib.ListN.{length, take, drop, get_or, replicate, length-append, length-replicate, replicate-append-replicate}
use lib.ListN.{length-take, length-drop}
use lib.Seq.{take_all, take_at, drop_at, length-take-le, get_or-append-add, drop-append-add}
use Rattle.lent.specs.Copied.{copied, copied_at}
use Rattle.lent.proofs.Lists.{drop_replicate, rest_all, copy_into, zeros}
use Rattle.zone.specs.Part as text
use Rattle.zone.specs.Alphabet.{filler}
use Rattle.zone.specs.Codes.{character_of}
use Rattle.zone.specs.Record.{padded}
use Rattle.zone.specs.Rooms.{name_room}
use Rattle.zone.proofs.Padded.{copied_padded, padded_spare, padded_append, padded_nil, padded_zero, padded_cons, padded_cut}
use Rattle.cells.specs.Bits.{bit, bits_at}
use Rattle.cells.specs.Cells.{numbers_at}
use Rattle.cells.proofs.Alike.{bit_alike, numbers_alike, none_each, Unset, numbers_none, numbers_parted}
use Rattle.cells.proofs.RowOctets.{whole_octets}
use Rattle.entry.specs.Row.{start}
use Rattle.entry.specs.Inner.Units.{front_fours, front_units, unit_of, rest_fours}
use Rattle.units.specs.Unpacked.{characters_at}
use Rattle.runs.specs.Inner.Units.{name_at, rest_start, end_by, size_by, spare_by, most_fours, all_units, all_octets, held}
use Rattle.runs.specs.Inner.Units.{units_over, units_in}
use Rattle.units.specs.Unpacked.{unpacked_over}
use Rattle.units.proofs.Reading.{length-characters, unpack_room}

-- ---- characters one behind the other, and fillers

characters_parted : (s : List ℕ) (k m n : ℕ) → characters_at s k (m + n) ≡ characters_at s k m ++ characters_at s (k + 6 * m) n
characters_parted s k m n =
    ap (map character_of) (numbers_parted s k m n 6) ∙ map-append character_of (numbers_at s k m 6) (numbers_at s (k + 6 * m) n 6)

fillers_of : (n : ℕ) → map character_of (replicate n 0) ≡ replicate n filler
unfolding character_of
fillers_of zero = refl
fillers_of (suc n) = ap (λ (l : List ℕ). filler ∷ l) (fillers_of n)

padded_fillers : (k m : ℕ) → padded k (replicate m filler) ≡ replicate k filler
padded_fillers k zero = padded_nil k
padded_fillers zero (suc m) = padded_zero (replicate (suc m) filler)
padded_fillers (suc k) (suc m) = padded_cons k filler (replicate m filler) ∙ ap (λ (l : List ℕ). filler ∷ l) (padded_fillers k m)

-- fillers behind a list make no difference to its room
fillers_behind : (k m : ℕ) (a : List ℕ) → padded k (a ++ replicate m filler) ≡ padded k a
unfolding padded
fillers_behind k m a =
    padded_append k a (replicate m filler) ∙ ap (λ (l : List ℕ). take k a ++ l) (padded_fillers (k - length a) m)

-- a part of a list
cut : (a b c r : List ℕ) (at m : ℕ) → length a ≡ at → length b ≡ m → take m (drop at ((a ++ (b ++ c)) ++ r)) ≡ b
cut a b c r at m p q =
    ap (λ (l : List ℕ). take m (drop at l)) (append_assoc a (b ++ c) r) ∙ ap (take m) (drop_at a ((b ++ c) ++ r) at p)
    ∙ ap (take m) (append_assoc b c r) ∙ take_at b (c ++ r) m q

-- the rest is unpacked to the part behind the front's units, which has room for it
pub units_unpacked : (to octets first back : List ℕ) (n : ℕ) → n < 95 → length to ≡ all_units → length octets ≡ all_octets
    → first ≡ unpacked_over 0 front_fours to octets
    → back ≡ unpacked_over rest_start (rest_fours n) (take (length first - front_units) (drop front_units first)) octets
    → take front_units first ++ (back ++ drop (length first - front_units) (drop front_units first)) ≡ units_over to octets n
unfolding units_over
units_unpacked to octets first back n h u o e f =
    let p = characters_at octets 0 front_units in
    let q = characters_at octets rest_start (4 * rest_fours n) in
    let one : first ≡ copied to p = e ∙ unpack_room 0 front_fours to octets (omega arith) (omega arith) in
    let x = take (length to) p in
    let y = drop (length p) to in
    let long : length first ≡ all_units = ap length one ∙ length-append x y
    ∙ omega (arith, length-take (length to) p, length-characters octets 0 front_units, length-drop (length p) to) in
    let part_of = take (length first - front_units) (drop front_units first) in
    let room : length part_of ≡ all_units - front_units =
    ap length (rest_all first front_units) ∙ length-drop front_units first ∙ omega arith in
    let two : back ≡ copied part_of q = f
    ∙ unpack_room rest_start (rest_fours n) part_of octets (omega arith) (omega arith) in
    copy_into first front_units q back two ∙ ap (λ (l : List ℕ). copied_at l front_units q) one

module _ (s : List ℕ) (n : ℕ) (h : size_by n ≤ length s) (g : n < 95) where
  -- ---- the octets

  abbrev octets : List ℕ
  octets = take (size_by n) s

  octets_long : length octets ≡ size_by n
  octets_long = length-take-le (size_by n) s h

  held_parts : held s n ≡ octets ++ replicate (all_octets - size_by n) 0
  unfolding held
  held_parts =
      rw (
        length-replicate {A = ℕ} all_octets 0,
        take_all all_octets octets (omega (arith, octets_long)),
        octets_long,
        drop_replicate (size_by n) all_octets 0,
      )

  held_alike : take (size_by n) (held s n) ≡ take (size_by n) s
  held_alike =
      ap (take (size_by n)) held_parts ∙ take_at octets (replicate (all_octets - size_by n) 0) (size_by n) octets_long

  -- no bit behind the name
  held_unset : bits_at s (end_by n) (spare_by n) ≡ 0 → Unset (held s n) (end_by n)
  unfolding bit
  held_unset z j k = go (ltb j (8 * size_by n)) refl
    where
      past : size_by n ≤ j / 8 → get_or (held s n) (j / 8) 0 ≡ 0
      past l =
          let e : length octets + (j / 8 - size_by n) ≡ j / 8 = omega (arith, octets_long) in
          let behind : List ℕ = replicate (all_octets - size_by n) 0 in
          ap (λ (x : List ℕ). get_or x (j / 8) 0) held_parts ∙ (rw e at (get_or-append-add octets behind (j / 8 - size_by n) 0))
          ∙ zeros (all_octets - size_by n) (j / 8 - size_by n)

      go : (b : Bool) → ltb j (8 * size_by n) ≡ b → bit (held s n) j ≡ 0
      go true t =
          let l = ltb-true j (8 * size_by n) t in
          let f : end_by n + (j - end_by n) ≡ j = omega arith in
          bit_alike (held s n) s (size_by n) held_alike j l
          ∙ (rw f at (none_each s (spare_by n) (end_by n) (j - end_by n) z (omega (arith, whole_octets (end_by n)))))
      go false t =
          let l = ltb-false j (8 * size_by n) t in
          rw (past (omega arith)) (ap (λ (x : ℕ). x % 2) (zero-div (2 ^ (7 - j % 8))))

  -- ---- the units

  abbrev first : List ℕ
  first = characters_at (held s n) 0 front_units

  abbrev second : List ℕ
  second = characters_at (held s n) rest_start (4 * rest_fours n)

  first_long : length first ≡ front_units
  first_long = length-characters (held s n) 0 front_units

  units_parts : units_in s n ≡ first ++ padded (4 * most_fours) second
  unfolding units_in units_over
  units_parts =
      let z : List ℕ = replicate (4 * most_fours) filler in
      let one : copied (replicate all_units filler) first ≡ first ++ z =
      rw (take_all all_units first (omega (arith, first_long)), first_long) in
      ap (λ (l : List ℕ). copied_at l front_units second) one
      ∙ rw (take_at first z front_units first_long, drop_at first z front_units first_long)
      (ap (λ (l : List ℕ). first ++ l) (copied_padded (4 * most_fours) second))

  pub field_read : (at m : ℕ) → at + m ≤ unit_of text.sex → take m (drop at (units_in s n)) ≡ characters_at s (6 * at) m
  field_read at m k =
      let x = held s n in
      let d = front_units - at - m in
      let e : front_units ≡ at + (m + d) = omega arith in
      let f : 0 + 6 * at ≡ 6 * at = omega arith in
      let a = characters_at x 0 at in
      let b = characters_at x (6 * at) m in
      let c = characters_at x (6 * at + 6 * m) d in
      let parts : first ≡ a ++ (b ++ c) = ap (characters_at x 0) e
      ∙ (rw f at (characters_parted x 0 at (m + d))) ∙ ap (λ (l : List ℕ). a ++ l) (characters_parted x (6 * at) m d) in
      ap (λ (l : List ℕ). take m (drop at l)) (units_parts ∙ ap (λ (l : List ℕ). l ++ padded (4 * most_fours) second) parts)
      ∙ cut a b c (padded (4 * most_fours) second) at m (length-characters x 0 at) (length-characters x (6 * at) m)
      ∙ ap (map character_of) (numbers_alike x s (size_by n) held_alike (6 * at) m 6 (omega arith))

  -- of characters that the octets have
  alike_read : (at k : ℕ) → at + 6 * k ≤ end_by n → characters_at (held s n) at k ≡ characters_at s at k
  alike_read at k l = ap (map character_of) (numbers_alike (held s n) s (size_by n) held_alike at k 6 (omega arith))

  module _ (z : bits_at s (end_by n) (spare_by n) ≡ 0) (m l : ℕ) (both : m + l ≡ n) where
    abbrev own : List ℕ
    own = characters_at s (start text.own + 5) m

    abbrev name : List ℕ
    name = characters_at s (name_at m + 6) l

    -- the units that hold the lengths
    abbrev one : List ℕ
    one = characters_at (held s n) rest_start 1

    abbrev two : List ℕ
    two = characters_at (held s n) (name_at m) 1

    -- how many units the fours have behind the name, and how many there are behind the fours
    abbrev left : ℕ
    left = 4 * rest_fours n - 2 - n

    abbrev more : ℕ
    more = 4 * most_fours - 4 * rest_fours n

    -- length and characters of the data, length and characters of the name, and fillers
    second_parts : second ≡ one ++ (own ++ (two ++ (name ++ replicate left filler)))
    second_parts =
        let x = held s n in
        let e : 4 * rest_fours n ≡ 1 + (m + (1 + (l + left))) = omega arith in
        let at_two : start text.own + 5 + 6 * m ≡ name_at m = omega arith in
        let at_end : name_at m + 6 + 6 * l ≡ end_by n = omega arith in
        let none : numbers_at x (end_by n) left 6 ≡ replicate left 0 = numbers_none x (end_by n) left 6 (held_unset z) in
        let last : characters_at x (name_at m + 6) (l + left) ≡ name ++ replicate left filler =
        characters_parted x (name_at m + 6) l left
        ∙ rw (at_end, none, fillers_of left, alike_read (name_at m + 6) l (omega arith)) in
        let third : characters_at x (name_at m) (1 + (l + left)) ≡ two ++ (name ++ replicate left filler) =
        characters_parted x (name_at m) 1 (l + left) ∙ ap (λ (t : List ℕ). two ++ t) last in
        let data_at : characters_at x (start text.own + 5) (m + (1 + (l + left)))
        ≡ own ++ (two ++ (name ++ replicate left filler)) =
        characters_parted x (start text.own + 5) m (1 + (l + left))
        ∙ rw (alike_read (start text.own + 5) m (omega arith)) (ap (λ (t : List ℕ). own ++ t) third) in
        ap (characters_at x rest_start) e ∙ characters_parted x rest_start 1 (m + (1 + (l + left)))
        ∙ ap (λ (t : List ℕ). one ++ t) data_at

    rest_parts : padded (4 * most_fours) second ≡ one ++ (own ++ (two ++ (name ++ replicate (left + more) filler)))
    rest_parts =
        let long : length second ≡ 4 * rest_fours n = length-characters (held s n) rest_start (4 * rest_fours n) in
        let u : List ℕ = replicate more filler in
        (rw long at (padded_spare (4 * most_fours) second (omega arith)))
        ∙ ap (λ (t : List ℕ). t ++ u) second_parts ∙ simp append_assoc
        (ap (λ (t : List ℕ). one ++ (own ++ (two ++ (name ++ t)))) (replicate-append-replicate left more filler))

    behind : (k : ℕ) → drop (front_units + k) (units_in s n) ≡ drop k (padded (4 * most_fours) second)
    behind k =
        ap (drop (front_units + k)) units_parts ∙ (rw first_long at (drop-append-add first (padded (4 * most_fours) second) k))

    pub own_read : take m (drop (front_units + 1) (units_in s n)) ≡ own
    own_read =
        let t = two ++ (name ++ replicate (left + more) filler) in
        ap (take m) (behind 1 ∙ ap (drop 1) rest_parts
        ∙ drop_at one (own ++ t) 1 (length-characters (held s n) rest_start 1))
        ∙ take_at own t m (length-characters s (start text.own + 5) m)

    -- behind the name stand fillers alone, perhaps fewer than its room has places
    pub padded_name : padded name_room (take name_room (drop (front_units + 2 + m) (units_in s n))) ≡ padded name_room name
    padded_name =
        let w : List ℕ = replicate (left + more) filler in
        let a = one ++ (own ++ two) in
        let e : front_units + 2 + m ≡ front_units + (2 + m) = omega arith in
        let a_long : length a ≡ 2 + m =
        length-append one (own ++ two) ∙ omega (
          arith,
          length-append own two,
          length-characters (held s n) rest_start 1,
          length-characters s (start text.own + 5) m,
          length-characters (held s n) (name_at m) 1,
        ) in
        let parts : padded (4 * most_fours) second ≡ a ++ (name ++ w) = rest_parts ∙ sym (simp append_assoc) in
        let there : drop (front_units + 2 + m) (units_in s n) ≡ name ++ w =
        ap (λ (k : ℕ). drop k (units_in s n)) e ∙ behind (2 + m) ∙ ap (drop (2 + m)) parts
        ∙ drop_at a (name ++ w) (2 + m) a_long in
        ap (λ (t : List ℕ). padded name_room (take name_room t)) there ∙ padded_cut name_room (name ++ w)
        ∙ fillers_behind name_room (left + more) name

  -- ---- a field of the front in its room

  pub padded_field : (at m : ℕ) → at + m ≤ unit_of text.sex
      → padded m (take m (drop at (units_in s n))) ≡ padded m (characters_at s (6 * at) m)
  padded_field at m k = ap (padded m) (field_read at m k)
