-- Characters and their values tell each other.
use Prim.Native.Nat.{ℕ, ◌+◌, ◌-◌, ◌≤◌}
use Prim.Native.Char.{code}
use mathlib.Core.Path.{◌≡◌, refl}
use mathlib.Core.Bool.{Bool, true, false, ◌||◌}
use mathlib.Core.Logic.{◌⊎◌, inl, inr}
use native.Mathlib.Omega.{arith}
use borrow.Author.Tests.{eqb-true, eqb-false, leb-true, leb-false, le-leb, lt-leb}
use lib.Dec.{eqb, leb}
use Rattle.lent.proofs.Bools.{and_both, or_either}
use Rattle.zone.specs.Alphabet.{is_digit, is_letter}
use Rattle.zone.proofs.Classes.{digit_range, letter_range, in_digits, above_digits, in_letters}
use Rattle.c40.specs.Values.{space, is_c40, value_of, is_value, character_of}

digit_value : (c : ℕ) → code "0" ≤ c → c ≤ code "9" → value_of c ≡ c - code "0" + 4
unfolding value_of
digit_value c h k = rw (in_digits c h k)

letter_value : (c : ℕ) → code "A" ≤ c → c ≤ code "Z" → value_of c ≡ c - code "A" + 14
unfolding value_of
letter_value c h k = rw (above_digits c (omega arith), in_letters c h k)

value_digit : (v : ℕ) → 4 ≤ v → v ≤ 13 → character_of v ≡ v - 4 + code "0"
unfolding character_of
value_digit v h k = rw (lt-leb v 3 h, le-leb v 13 k)

value_letter : (v : ℕ) → 14 ≤ v → character_of v ≡ v - 14 + code "A"
unfolding character_of
value_letter v h = rw (lt-leb v 3 (omega arith), lt-leb v 13 h)

pub value_range : (v : ℕ) → is_value v ≡ true → (3 ≤ v) × (v ≤ 39)
unfolding is_value
value_range v e = let p = and_both (leb 3 v) (leb v 39) e in (leb-true 3 v p.0, leb-true v 39 p.1)

in_values : (v : ℕ) → 3 ≤ v → v ≤ 39 → is_value v ≡ true
unfolding is_value
in_values v h k = rw (le-leb 3 v h, le-leb v 39 k)

pub above_values : (v : ℕ) → 40 ≤ v → is_value v ≡ false
unfolding is_value
above_values v h = rw (le-leb 3 v (omega arith), lt-leb v 39 (omega arith))

-- a character has a value, and is the one that the value has
unfoldable pub has_value : ℕ → Type 0
has_value c = (is_value (value_of c) ≡ true) × (character_of (value_of c) ≡ c)

digit_valued : (c : ℕ) → code "0" ≤ c → c ≤ code "9" → has_value c
unfolding has_value
digit_valued c h k =
    let same = digit_value c h k in (
      rw same (in_values (c - code "0" + 4) (omega arith) (omega arith)),
      rw (same, value_digit (c - code "0" + 4) (omega arith) (omega arith)) (omega arith),
    )

letter_valued : (c : ℕ) → code "A" ≤ c → c ≤ code "Z" → has_value c
unfolding has_value
letter_valued c h k =
    let same = letter_value c h k in (
      rw same (in_values (c - code "A" + 14) (omega arith) (omega arith)),
      rw (same, value_letter (c - code "A" + 14) (omega arith)) (omega arith),
    )

space_valued : has_value space
unfolding has_value value_of character_of is_value is_digit is_letter
space_valued = (refl, refl)

pub value_tells : (c : ℕ) → is_c40 c ≡ true → has_value c
unfolding is_c40
value_tells c e = go (or_either (is_digit c) (is_letter c || eqb c space) e)
  where
    other : (is_letter c ≡ true) ⊎ (eqb c space ≡ true) → has_value c
    other (inl h) = letter_valued c (letter_range c h).0 (letter_range c h).1
    other (inr h) = rw (eqb-true c space h) space_valued

    go : (is_digit c ≡ true) ⊎ (is_letter c || eqb c space ≡ true) → has_value c
    go (inl h) = digit_valued c (digit_range c h).0 (digit_range c h).1
    go (inr h) = other (or_either (is_letter c) (eqb c space) h)

-- a value has a character, and is the one that the character has
unfoldable pub is_held : ℕ → Type 0
is_held v = (is_c40 (character_of v) ≡ true) × (value_of (character_of v) ≡ v)

space_held : is_held 3
unfolding is_held is_c40 value_of character_of is_digit is_letter
space_held = (refl, refl)

digit_held : (v : ℕ) → 4 ≤ v → v ≤ 13 → is_held v
unfolding is_held is_c40
digit_held v h k =
    let same = value_digit v h k in
    let c = v - 4 + code "0" in (
      rw (same, in_digits c (omega arith) (omega arith)),
      rw (same, digit_value c (omega arith) (omega arith)) (omega arith),
    )

letter_held : (v : ℕ) → 14 ≤ v → v ≤ 39 → is_held v
unfolding is_held is_c40
letter_held v h k =
    let same = value_letter v h in
    let c = v - 14 + code "A" in (
      rw (same, above_digits c (omega arith), in_letters c (omega arith) (omega arith)),
      rw (same, letter_value c (omega arith) (omega arith)) (omega arith),
    )

pub character_tells : (v : ℕ) → is_value v ≡ true → is_held v
character_tells v e = go (eqb v 3) refl (leb v 13) refl
  where
    least : eqb v 3 ≡ false → 4 ≤ v
    least p = let h = (value_range v e).0 in let d = eqb-false v 3 p in omega arith

    go : (a : Bool) → eqb v 3 ≡ a → (b : Bool) → leb v 13 ≡ b → is_held v
    go true p b q = rw (eqb-true v 3 p) space_held
    go false p true q = digit_held v (least p) (leb-true v 13 q)
    go false p false q = letter_held v (leb-false v 13 q) (value_range v e).1

-- the codes of the characters
pub c40_range : (c : ℕ) → is_c40 c ≡ true → (code " " ≤ c) × (c ≤ code "Z")
unfolding is_c40
c40_range c e = go (or_either (is_digit c) (is_letter c || eqb c space) e)
  where
    other : (is_letter c ≡ true) ⊎ (eqb c space ≡ true) → (code " " ≤ c) × (c ≤ code "Z")
    other (inl h) = let r = letter_range c h in (omega arith, omega arith)
    other (inr h) = let r = eqb-true c space h in (omega arith, omega arith)

    go : (is_digit c ≡ true) ⊎ (is_letter c || eqb c space ≡ true) → (code " " ≤ c) × (c ≤ code "Z")
    go (inl h) = let r = digit_range c h in (omega arith, omega arith)
    go (inr h) = other (or_either (is_letter c) (eqb c space) h)

pub digit_c40 : (c : ℕ) → is_digit c ≡ true → is_c40 c ≡ true
unfolding is_c40
digit_c40 c e = rw e

pub letter_c40 : (c : ℕ) → is_letter c ≡ true → is_c40 c ≡ true
unfolding is_c40
letter_c40 c e = let h = letter_range c e in rw (above_digits c (omega arith), e)
