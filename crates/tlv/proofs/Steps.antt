-- A walk from element to element by a number of steps: any number that is enough gives the same.
use Prim.Native.Nat.{ℕ, zero, suc, ◌+◌, ◌≤◌, ◌<◌}
use mathlib.Core.Path.{◌≡◌, refl, ap, sym, ◌∙◌}
use mathlib.Core.Bool.{Bool, true, false}
use native.Mathlib.Omega.{arith}
use borrow.Author.Tests.{ltb-true, ltb-false}
use lib.Dec.{ltb}
use Rattle.refusal.specs.Numbers.{Why}
use Rattle.tlv.specs.Read.{Read, value, refusal}

-- n: where what is walked ends; what stands at a place, and where it ends; how it is joined to what follows
module _ {A R : Type 0} (n : ℕ) (step : ℕ → Read A) (end : A → ℕ) (join : ℕ → A → Read R → Read R) (done : Read R)
    (walk : ℕ → ℕ → Read R)
    (ends : (k at : ℕ) → n ≤ at → walk k at ≡ done)
    (more : (k at : ℕ) (a : A) → at < n → step at ≡ value a → walk (suc k) at ≡ join at a (walk k (end a)))
    (stop : (k at : ℕ) (why : Why) (place : ℕ) → at < n → step at ≡ refusal why place → walk (suc k) at ≡ refusal why place)
    (behind : (at : ℕ) (a : A) → step at ≡ value a → at < end a) where
  here : (k m at : ℕ) (x : Read A) → step at ≡ x → at < n → ((a : A) → at < end a → walk k (end a) ≡ walk m (end a))
      → walk (suc k) at ≡ walk (suc m) at
  here k m at (value a) e h ih = more k at a h e ∙ (ap (join at a) (ih a (behind at a e)) ∙ sym (more m at a h e))
  here k m at (refusal why place) e h ih = stop k at why place h e ∙ sym (stop m at why place h e)

  either : (k m at : ℕ) (b : Bool) → ltb at n ≡ b → ((a : A) → at < end a → walk k (end a) ≡ walk m (end a))
      → walk (suc k) at ≡ walk (suc m) at
  either k m at true q ih = here k m at (step at) refl (ltb-true at n q) ih
  either k m at false q ih = let h = ltb-false at n q in ends (suc k) at h ∙ sym (ends (suc m) at h)

  pub steps_enough : (k m at : ℕ) → n ≤ at + k → n ≤ at + m → walk k at ≡ walk m at
  steps_enough zero m at a b = ends zero at (omega arith) ∙ sym (ends m at (omega arith))
  steps_enough (suc k) zero at a b = ends (suc k) at (omega arith) ∙ sym (ends zero at (omega arith))
  steps_enough (suc k) (suc m) at a b = either k m at (ltb at n) refl
      (λ x h. steps_enough k m (end x) (omega arith) (omega arith))
