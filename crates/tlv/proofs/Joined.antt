-- The laws of a reading step by step: what it gives by what its steps give, and what they must have given.
use Prim.Native.Nat.{ℕ}
use mathlib.Core.Path.{◌≡◌, refl, ap, sym}
use mathlib.Core.Bool.{Bool, true, false, cond}
use native.Mathlib.Omega.{arith}
use Rattle.refusal.specs.Numbers.{Why, by}
use Rattle.refusal.specs.Outcome.{Outcome, passed, refused, or_else}
use Rattle.refusal.proofs.Outcomes.{refused_not_passed}
use Rattle.tlv.specs.Read.{Read, value, refusal, and_then, checked, outcome_in}

refused_as : {A : Type 0} → Outcome → Read A
refused_as passed = refusal (by 0) 0
refused_as (refused n p) = refusal n p

pub told_then : {A B : Type 0} (m : Read A) (go : A → B) → outcome_in (and_then m (λ a. value (go a))) ≡ outcome_in m
unfolding outcome_in and_then
told_then (value a) go = refl
told_then (refusal n p) go = refl

-- a reading is refused exactly where it decides so
pub refusal_told : {A : Type 0} (m : Read A) (n : Why) (p : ℕ) → outcome_in m ≡ refused n p → m ≡ refusal n p
unfolding outcome_in
refusal_told (value a) n p e = absurd (refused_not_passed (sym e))
refusal_told (refusal m q) n p e = let x : m ≡ n = cc in let y : q ≡ p = cc in rw (x, y)

pub passed_then : {A B : Type 0} (m : Read A) (b : B) → outcome_in m ≡ passed → and_then m (λ a. value b) ≡ value b
unfolding outcome_in and_then
passed_then (value a) b e = refl
passed_then (refusal n p) b e = absurd (refused_not_passed e)

pub refused_then : {A B : Type 0} (m : Read A) (go : A → Read B) (n : Why) (p : ℕ) → outcome_in m ≡ refused n p
    → and_then m go ≡ refusal n p
unfolding outcome_in and_then refused_as
refused_then (value a) go n p e = absurd (refused_not_passed (sym e))
refused_then {A} {B} (refusal k q) go n p e = ap (refused_as {A = B}) e

-- ---- what must have been, where a joined reading gave a value

pub never_value : {A : Type 0} (n : Why) (p : ℕ) (a : A) → ◌≡◌ {A = Read A} (refusal n p) (value a) → ⊥
never_value n p a e = let z : ◌≡◌ {A = ℕ} 0 1 = cc in omega arith

pub same_value : {A : Type 0} {a b : A} → ◌≡◌ {A = Read A} (value a) (value b) → a ≡ b
same_value e = cc

pub first_value : {A B : Type 0} (m : Read A) (go : A → Read B) (b : B) → and_then m go ≡ value b
    → (a : A) × (m ≡ value a) × (go a ≡ value b)
unfolding and_then
first_value (value a) go b e = (a, refl, e)
first_value (refusal n p) go b e = absurd (never_value n p b e)

pub checked_value : {A : Type 0} (o : Outcome) (m : Read A) (a : A) → checked o m ≡ value a → (o ≡ passed) × (m ≡ value a)
unfolding checked
checked_value passed m a e = (refl, e)
checked_value (refused n p) m a e = absurd (never_value n p a e)

pub kept_value : {A : Type 0} (b : Bool) (m : Read A) (n : Why) (p : ℕ) (a : A) → cond b m (refusal n p) ≡ value a
    → (b ≡ true) × (m ≡ value a)
kept_value true m n p a e = (refl, e)
kept_value false m n p a e = absurd (never_value n p a e)

-- ---- what it gives, where its step is known

pub value_then : {A B : Type 0} (m : Read A) (go : A → Read B) (a : A) (r : Read B) → m ≡ value a → go a ≡ r → and_then m go ≡ r
unfolding and_then
value_then m go a r e f = rw e f

-- what goes on from a value that is known
pub then_known : {A B : Type 0} (m : Read A) (go : A → Read B) (a : A) (r : Read B) → m ≡ value a → and_then m go ≡ r → go a ≡ r
unfolding and_then
then_known m go a r e f = rw e at f

-- what goes on alike from every value that a step can give
pub then_same : {A B : Type 0} (m : Read A) (f g : A → Read B) → ((a : A) → m ≡ value a → f a ≡ g a) → and_then m f ≡ and_then m g
unfolding and_then
then_same (value a) f g h = h a refl
then_same (refusal n p) f g h = refl

-- a reading gives one value
pub one_value : {A : Type 0} (m : Read A) (a b : A) → m ≡ value a → m ≡ value b → a ≡ b
one_value m a b e f = cc

pub value_checked : {A : Type 0} (o : Outcome) (m r : Read A) → o ≡ passed → m ≡ r → checked o m ≡ r
unfolding checked
value_checked o m r e f = rw e f

-- ---- what joined steps decide

pub checked_outcome : {A : Type 0} (o : Outcome) (m : Read A) → outcome_in (checked o m) ≡ or_else o (outcome_in m)
unfolding outcome_in checked
checked_outcome passed m = refl
checked_outcome (refused n p) m = refl

-- a value that is checked, and then what goes on from it
pub then_outcome : {A B : Type 0} (o : Outcome) (a : A) (next : A → Read B)
    → outcome_in (and_then (checked o (value a)) next) ≡ or_else o (outcome_in (next a))
unfolding outcome_in checked and_then
then_outcome passed a next = refl
then_outcome (refused n p) a next = refl

pub then_then : {A B C : Type 0} (m : Read A) (f : A → Read B) (g : B → Read C)
    → and_then (and_then m f) g ≡ and_then m (λ a. and_then (f a) g)
unfolding and_then
then_then (value a) f g = refl
then_then (refusal n p) f g = refl
