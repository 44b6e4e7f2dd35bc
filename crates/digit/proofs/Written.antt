-- The digit as a character: what fillers have, that it is a character and no filler, and that it tells the check.
use Prim.Native.Nat.{ℕ, zero, suc, ◌+◌, ◌-◌, ◌%◌, ◌<◌}
use mathlib.Core.Path.{◌≡◌, refl}
use mathlib.Core.Bool.{true, false}
use mathlib.Core.List.{List, [], ◌∷◌}
use mathlib.Core.Logic.{◌↔◌}
use native.Mathlib.Nat.{mod-lt}
use native.Mathlib.Omega.{arith}
use borrow.Author.Tests.{ne_eqb, le-leb, eqb-true}
use lib.Dec.{eqb, lit<}
use lib.ListN.{replicate}
use Prim.Native.Char.{code}
use Rattle.lent.proofs.Bools.{and_both}
use Rattle.zone.specs.Alphabet.{is_digit, is_letter, is_filler, is_character, filler, every}
use Rattle.digit.specs.Check.{value, sum_from, check_of, digit_of}
use Rattle.digit.specs.Inner.Thirds.{as_digit}

pub sum_fillers : (i n : ℕ) → sum_from i (replicate n filler) ≡ 0
unfolding sum_from value is_digit is_letter
sum_fillers i zero = refl
sum_fillers i (suc n) = rw (sum_fillers (suc i) n) (omega arith)

-- the same of characters that are fillers
pub fillers_sum : (i : ℕ) (s : List ℕ) → every is_filler s ≡ true → sum_from i s ≡ 0
unfolding sum_from every is_filler value is_digit is_letter
fillers_sum i [] e = refl
fillers_sum i (c ∷ s) e =
    let both = and_both (eqb c filler) (every is_filler s) e in
    rw (eqb-true c filler both.0, fillers_sum (suc i) s both.1) (omega arith)

-- fillers have 0
pub fillers_digit : (n : ℕ) → digit_of (replicate n filler) ≡ code "0"
unfolding digit_of check_of
fillers_digit n = rw (sum_fillers 0 n)

digit_below : (s : List ℕ) → digit_of s < 58
unfolding digit_of check_of
digit_below s = omega (arith, mod-lt (sum_from 0 s) (lit< {m = 0} {n = 10} tt))

-- a sum written as a digit is a digit
pub as_digit_digit : (sum : ℕ) → is_digit (as_digit sum) ≡ true
unfolding is_digit as_digit
as_digit_digit sum = rw (
  le-leb (code "0") (code "0" + sum % 10) (omega arith),
  le-leb (code "0" + sum % 10) (code "9") (omega (arith, mod-lt sum (lit< {m = 0} {n = 10} tt))),
)

pub digit_digit : (s : List ℕ) → is_digit (digit_of s) ≡ true
unfolding as_digit digit_of check_of
digit_digit s = as_digit_digit (sum_from 0 s)

-- what it counts is the check
pub digit_number : (s : List ℕ) → digit_of s - code "0" ≡ check_of s
unfolding digit_of
digit_number s = omega arith

pub digit_character : (s : List ℕ) → is_character (digit_of s) ≡ true
unfolding is_character
digit_character s = rw (digit_digit s)

pub digit_solid : (s : List ℕ) → is_filler (digit_of s) ≡ false
unfolding is_filler
digit_solid s = ne_eqb (digit_of s) filler (λ e. omega (arith, digit_below s))

-- two written digits are the same exactly when the checks are
pub digit_tells : (s t : List ℕ) → (digit_of s ≡ digit_of t) ↔ (check_of s ≡ check_of t)
unfolding digit_of
digit_tells s t = (λ e. omega arith, λ e. omega arith)
