-- The first refusal of a list of checks, and that it is the first failing one.
use Prim.Native.Nat.{ℕ}
use mathlib.Core.Path.{◌≡◌, refl, sym}
use mathlib.Core.List.{List, [], ◌∷◌, ◌++◌}
use native.Mathlib.Omega.{arith}
use Rattle.refusal.specs.Numbers.{Why}
use Rattle.refusal.specs.Outcome.{Outcome, passed, refused, or_else}
use Rattle.text_theorems.specs.Ordered.{FirstFailing, here, later}

pub never : (n : Why) (p : ℕ) → passed ≡ refused n p → ⊥
never n p e = let z : ◌≡◌ {A = ℕ} 0 1 = cc in omega arith

-- the first of a list that is a refusal
unfoldable pub first_of : List Outcome → Outcome
first_of [] = passed
first_of (o ∷ os) = or_else o (first_of os)

pub first_append : (a b : List Outcome) → first_of (a ++ b) ≡ or_else (first_of a) (first_of b)
unfolding first_of
first_append [] b = refl
first_append (passed ∷ a) b = first_append a b
first_append (refused n p ∷ a) b = refl

pub first_failing : (os : List Outcome) (n : Why) (p : ℕ) → first_of os ≡ refused n p → FirstFailing os n p
unfolding first_of
first_failing [] n p e = absurd (never n p e)
first_failing (passed ∷ os) n p e = later (first_failing os n p e)
first_failing (refused m q ∷ os) n p e = rw (sym same_number, sym same_place) here
  where
    same_number : m ≡ n
    same_number = cc

    same_place : q ≡ p
    same_place = cc

pub failing_first : (os : List Outcome) (n : Why) (p : ℕ) → FirstFailing os n p → first_of os ≡ refused n p
unfolding first_of
failing_first [] n p h = elim h [ ]
failing_first (refused m q ∷ os) n p here = refl
failing_first (passed ∷ os) n p (later h) = failing_first os n p h
