-- A place against the digit that was worked out: the refusal carries the check.
use Prim.Native.Nat.{ℕ}
use mathlib.Core.Path.{◌≡◌}
use mathlib.Core.List.{List}
use Rattle.digit.specs.Check.{digit_of}
use Rattle.digit.proofs.Written.{digit_number}
use Rattle.text_digits.specs.Digits.{digit_at}
use Rattle.text_digits.specs.Inner.Checks.{written_at}

pub written_digit : (t : List ℕ) (place : ℕ) (covers : List ℕ) → written_at t place (digit_of covers) ≡ digit_at t place covers
unfolding written_at digit_at
written_digit t place covers = rw (digit_number covers)
