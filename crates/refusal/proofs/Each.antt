-- What every refusal has that an outcome can be: of checks in their order, what each of them has.
use Prim.Native.Nat.{ℕ}
use mathlib.Core.Path.{◌≡◌, refl, sym}
use mathlib.Core.Bool.{Bool, true, false}
use Rattle.refusal.specs.Numbers.{Why, by}
use Rattle.refusal.specs.Outcome.{Outcome, passed, refused, or_else, refused_unless, unless}
use Rattle.refusal.proofs.Outcomes.{refused_not_passed}

abbrev pub Each : (Why → ℕ → Type 0) → Outcome → Type 0
Each P o = (n : Why) (p : ℕ) → o ≡ refused n p → P n p

module _ (P : Why → ℕ → Type 0) where
  pub each_passed : Each P passed
  each_passed n p e = absurd (refused_not_passed (sym e))

  pub each_refused : (n : Why) (p : ℕ) → P n p → Each P (refused n p)
  each_refused n p h m q e = let a : n ≡ m = cc in let b : p ≡ q = cc in rw (← a, ← b) h

  -- the second is looked at where the first passed
  pub each_after : (a b : Outcome) → Each P a → (a ≡ passed → Each P b) → Each P (or_else a b)
  each_after passed b h k = k refl
  each_after (refused n p) b h k = h

  pub each_else : (a b : Outcome) → Each P a → Each P b → Each P (or_else a b)
  each_else a b h k = each_after a b h (λ e. k)

  pub each_rule : (b : Bool) (n : Why) (p : ℕ) → P n p → Each P (refused_unless b n p)
  each_rule true n p h = each_passed
  each_rule false n p h = each_refused n p h

  pub each_unless : (b : Bool) (n p : ℕ) → P (by n) p → Each P (unless b n p)
  each_unless b n p = each_rule b (by n) p
