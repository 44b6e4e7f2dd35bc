-- How the units of an entry come about: characters copied over fillers, each field behind the one before it, and numbers put
-- between them.
use Prim.Native.Nat.{ℕ, suc, ◌+◌, ◌-◌, ◌*◌, ◌/◌, ◌%◌, ◌≤◌, ◌<◌}
use mathlib.Core.Path.{◌≡◌, refl, ap, sym, ◌∙◌}
use mathlib.Core.List.{List, [], ◌∷◌, ◌++◌, map, map-append, append_assoc}
use native.Mathlib.Omega.{arith}
use lib.ListN.{length, take, set, replicate, length-append, length-map}
use lib.Seq.{set_at}
use Rattle.lent.specs.Copied.{copied_at}
use Rattle.zone.specs.Alphabet.{filler, is_digit, is_letter}
use Rattle.zone.specs.Codes.{code_of}
use Rattle.zone.specs.Part as text
use Rattle.zone.specs.Record.{padded, plain, held_rows}
use Rattle.zone.specs.Rooms.{own_room, name_room}
use Rattle.zone.specs.declared.record.Record.{Record}
use Rattle.zone.proofs.Padded.{copied_behind, padded_append, padded_spare}
use Rattle.sound.proofs.SoundRecord.{Sound}
use Rattle.entry.specs.Codes.{form_code, sex_code}
use Rattle.entry.specs.Inner.Units.{unit_of, gap, front_units, all_units, before, spare, front, rest, units_of}
use Rattle.entry.specs.Inner.Units.{placed, placed_key, placed_after_key, placed_rest}

-- one field more, behind what ends at its place
onto : (at : ℕ) {x : List ℕ} (a b : List ℕ) → x ≡ padded all_units a → length a ≡ at
    → copied_at x at b ≡ padded all_units (a ++ b)
onto at a b p e = rw (p, ← e) (copied_behind all_units a b)

begin : replicate all_units filler ≡ padded all_units (replicate (unit_of text.state) filler)
unfolding padded
begin = refl

-- fillers behind it make no difference
fillers_behind : (a : List ℕ) → length a ≡ unit_of text.sex
    → padded all_units a ≡ padded all_units (a ++ replicate (gap + 2) filler)
unfolding padded
fillers_behind a e = sym (padded_append all_units a (replicate (gap + 2) filler) ∙ rw e)

filler_behind : (a : List ℕ) → length a < all_units → padded all_units a ≡ padded all_units (a ++ (filler ∷ []))
filler_behind a h =
    let k = all_units - length a - 1 in
    let one : all_units - length a ≡ suc k = omega arith in
    let b : List ℕ = filler ∷ [] in
    let long : length (a ++ b) ≡ suc (length a) = length-append a b ∙ omega arith in
    let left : all_units - length (a ++ b) ≡ k = omega (arith, long) in
    padded_spare all_units a (omega arith) ∙ ap (λ (i : ℕ). a ++ replicate i filler) one
    ∙ sym (padded_spare all_units (a ++ b) (omega (arith, long)) ∙ ap (λ (i : ℕ). (a ++ b) ++ replicate i filler) left
    ∙ append_assoc a b (replicate k filler))

own_within : (n m : ℕ) → n ≡ front_units + 1 + m → m ≤ own_room → n < all_units
own_within n m e h = omega arith

pub copied_placed : (r : Record) → Sound r → length (take r.own_len r.own) ≡ r.own_len
    → placed_rest r (placed_after_key r (placed_key r (replicate all_units filler))) ≡ placed r
unfolding placed before placed_rest placed_after_key placed_key held_rows plain
copied_placed r sound o =
    let s = sound.places text.state refl in
    let n = sound.number_places in
    let b = sound.places text.birth refl in
    let e = sound.places text.expiry refl in
    let c = sound.places text.code refl in
    let a = sound.places text.nationality refl in
    let m = sound.name_places in
    let most = sound.own_most in
    let f : List ℕ = replicate (unit_of text.state) filler in
    let g : List ℕ = replicate (gap + 2) filler in
    let z : List ℕ = replicate (spare r) filler in
    let own = take r.own_len r.own in
    let f1 = f ++ r.state in
    let f2 = f1 ++ r.number in
    let f3 = f2 ++ r.birth in
    let f4 = f3 ++ r.expiry in
    let f5 = f4 ++ r.code in
    let f6 = f5 ++ r.nationality in
    let f7 = (f6 ++ g) ++ own in
    let f8 = f7 ++ (filler ∷ []) in
    let f9 = f8 ++ r.name in
    let l1 : length f1 ≡ unit_of text.number = length-append f r.state ∙ omega arith in
    let l2 : length f2 ≡ unit_of text.birth = length-append f1 r.number ∙ omega arith in
    let l3 : length f3 ≡ unit_of text.expiry = length-append f2 r.birth ∙ omega arith in
    let l4 : length f4 ≡ unit_of text.code = length-append f3 r.expiry ∙ omega arith in
    let l5 : length f5 ≡ unit_of text.nationality = length-append f4 r.code ∙ omega arith in
    let l6 : length f6 ≡ unit_of text.sex = length-append f5 r.nationality ∙ omega arith in
    let l7 : length (f6 ++ g) ≡ front_units + 1 = length-append f6 g ∙ omega arith in
    let l8 : length f7 ≡ front_units + 1 + r.own_len = length-append (f6 ++ g) own ∙ omega arith in
    let l9 : length f8 ≡ front_units + 2 + r.own_len = length-append f7 (filler ∷ []) ∙ omega arith in
    let last : length f9 ≡ front_units + 2 + r.own_len + name_room = length-append f8 r.name ∙ omega arith in
    let over : all_units - length f9 ≡ spare r = omega arith in
    let all : padded all_units f9 ≡ f9 ++ z = rw over at (padded_spare all_units f9 (omega arith)) in
    onto (front_units + 2 + r.own_len) f8 r.name
    (onto (front_units + 1) (f6 ++ g) own
    (onto (unit_of text.nationality) f5 r.nationality
    (onto (unit_of text.code) f4 r.code
    (onto (unit_of text.expiry) f3 r.expiry
    (onto (unit_of text.birth) f2 r.birth
    (onto (unit_of text.number) f1 r.number
    (onto (unit_of text.state) f r.state begin refl) l1) l2) l3) l4) l5
    ∙ fillers_behind f6 l6) l7
    ∙ filler_behind f7 (own_within (length f7) r.own_len l8 most)) l9
    ∙ all ∙ simp append_assoc

-- ---- the numbers between them

pub sound_before : (r : Record) → Sound r → length (before r) + unit_of text.state ≡ unit_of text.sex
unfolding before held_rows plain
sound_before r s =
    let places = s.places in
    simp length-append
    (omega (
      arith,
      places text.state refl,
      s.number_places,
      places text.birth refl,
      places text.expiry refl,
      places text.code refl,
      places text.nationality refl,
    ))

numbers_behind : (b o nm : List ℕ) (x m n at to last : ℕ) → length b ≡ at → at + (gap + 1) ≡ to → to + 1 + length o ≡ last
    → set (set (set (map code_of (b ++ (filler ∷ filler ∷ filler ∷ filler ∷ (o ++ (filler ∷ nm))))) at x) to m) last n
    ≡ (map code_of b ++ (x ∷ 0 ∷ 0 ∷ [])) ++ (m ∷ (map code_of o ++ (n ∷ map code_of nm)))
unfolding code_of is_digit is_letter
numbers_behind b o nm x m n at to last h k e =
    let p = map code_of b in
    let c = map code_of o in
    let q = map code_of nm in
    let y = x ∷ 0 ∷ 0 ∷ [] in
    let u = (p ++ y) ++ (m ∷ c) in
    let l : length p ≡ at = length-map b code_of ∙ h in
    let first : length (p ++ y) ≡ to = length-append p y ∙ omega arith in
    let long : length u ≡ last = length-append (p ++ y) (m ∷ c) ∙ omega (arith, length-map o code_of) in
    ap (λ (l : List ℕ). set (set (set l at x) to m) last n)
    (map-append code_of b (filler ∷ filler ∷ filler ∷ filler ∷ (o ++ (filler ∷ nm)))
    ∙ ap (λ (l : List ℕ). p ++ (0 ∷ 0 ∷ 0 ∷ 0 ∷ l)) (map-append code_of o (filler ∷ nm)))
    ∙ ap (λ (l : List ℕ). set (set l to m) last n)
    (set_at p 0 (0 ∷ 0 ∷ 0 ∷ (c ++ (0 ∷ q))) x at l ∙ sym (append_assoc p y (0 ∷ (c ++ (0 ∷ q)))))
    ∙ ap (λ (l : List ℕ). set l last n)
    (set_at (p ++ y) 0 (c ++ (0 ∷ q)) m to first ∙ sym (append_assoc (p ++ y) (m ∷ c) (0 ∷ q)))
    ∙ set_at u 0 q n last long ∙ append_assoc (p ++ y) (m ∷ c) (n ∷ q)

pub numbers_placed : (house : ℕ) (r : Record) → Sound r → length (take r.own_len r.own) ≡ r.own_len
    → set (set (set (set (set (set (map code_of (placed r)) 0 ((house * 8 + form_code r.form) / 4096))
    1 ((house * 8 + form_code r.form) / 64 % 64)) 2 ((house * 8 + form_code r.form) % 64))
    (unit_of text.sex) (sex_code r.sex * 16)) front_units r.own_len) (front_units + 1 + r.own_len) r.name_len
    ≡ units_of house r
unfolding placed units_of front rest code_of is_digit is_letter
numbers_placed house r s o =
    let head = house * 8 + form_code r.form in
    let three : front_units + 1 + r.own_len ≡ suc (suc (suc (front_units - 2 + r.own_len))) = omega arith in
    rw three
    (ap (λ (l : List ℕ). (head / 4096) ∷ (head / 64 % 64) ∷ (head % 64) ∷ l)
    (numbers_behind (before r) (take r.own_len r.own) (r.name ++ replicate (spare r) filler) (sex_code r.sex * 16)
    r.own_len r.name_len (unit_of text.sex - unit_of text.state) (front_units - unit_of text.state)
    (front_units - 2 + r.own_len) (omega (arith, sound_before r s)) refl (omega (arith, o))))
