-- What the tests of the alphabet say of a character's number, and the numbers that pass them.
use Prim.Native.Nat.{ℕ, ◌≤◌, ◌<◌}
use Prim.Native.Char.{code}
use mathlib.Core.Path.{◌≡◌, refl}
use mathlib.Core.Bool.{true, false, ◌&&◌, Bool, ◌||◌}
use native.Mathlib.Omega.{arith}
use lib.Dec.{leb}
use borrow.Author.Tests.{leb-true, le-leb, lt-leb, ne_eqb}
use mathlib.Core.Logic.{◌⊎◌, inl, inr}
use Rattle.lent.proofs.Bools.{and_both, or_either}
use Rattle.zone.specs.Alphabet.{is_digit, is_letter, is_filler, is_character, filler}

between : (a b c : ℕ) → leb a c && leb c b ≡ true → (a ≤ c) × (c ≤ b)
between a b c e = let p = and_both (leb a c) (leb c b) e in (leb-true a c p.0, leb-true c b p.1)

pub digit_range : (c : ℕ) → is_digit c ≡ true → (code "0" ≤ c) × (c ≤ code "9")
unfolding is_digit
digit_range c e = between (code "0") (code "9") c e

pub letter_range : (c : ℕ) → is_letter c ≡ true → (code "A" ≤ c) × (c ≤ code "Z")
unfolding is_letter
letter_range c e = between (code "A") (code "Z") c e

-- and the other way
pub in_digits : (c : ℕ) → code "0" ≤ c → c ≤ code "9" → is_digit c ≡ true
unfolding is_digit
in_digits c h k = rw (le-leb (code "0") c h, le-leb c (code "9") k)

pub above_digits : (c : ℕ) → code "9" < c → is_digit c ≡ false
unfolding is_digit
above_digits c h = rw (le-leb (code "0") c (omega arith), lt-leb c (code "9") h)

pub in_letters : (c : ℕ) → code "A" ≤ c → c ≤ code "Z" → is_letter c ≡ true
unfolding is_letter
in_letters c h k = rw (le-leb (code "A") c h, le-leb c (code "Z") k)

pub letter_solid : (c : ℕ) → is_letter c ≡ true → is_filler c ≡ false
unfolding is_filler
letter_solid c e = ne_eqb c filler (λ h. omega (arith, (letter_range c e).0))

pub letter_in : (c : ℕ) → is_letter c ≡ true → is_character c ≡ true
unfolding is_character
letter_in c e = rw e (go (is_digit c))
  where
    go : (b : Bool) → b || true ≡ true
    go true = refl
    go false = refl

pub filler_in : (c : ℕ) → is_filler c ≡ true → is_character c ≡ true
unfolding is_character
filler_in c e = rw e (go (is_digit c) (is_letter c))
  where
    go : (b a : Bool) → b || (a || true) ≡ true
    go true a = refl
    go false true = refl
    go false false = refl

pub digit_in : (c : ℕ) → is_digit c ≡ true → is_character c ≡ true
unfolding is_character
digit_in c e = rw e

pub either_in : (c : ℕ) → is_letter c || is_filler c ≡ true → is_character c ≡ true
either_in c e = go (or_either (is_letter c) (is_filler c) e)
  where
    go : (is_letter c ≡ true) ⊎ (is_filler c ≡ true) → is_character c ≡ true
    go (inl h) = letter_in c h
    go (inr h) = filler_in c h
