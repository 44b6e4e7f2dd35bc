-- The laws of outcomes: what stands in what order decides, however it is grouped; what a check that passed says.
use Prim.Native.Nat.{ℕ}
use mathlib.Core.Path.{◌≡◌, refl}
use mathlib.Core.Bool.{Bool, true, false}
use native.Mathlib.Omega.{arith}
use Rattle.refusal.specs.Numbers.{Why, by}
use Rattle.std.specs.Prelude.{Result, Ok, Err}
use Rattle.std.specs.Result.{result_and}
use Rattle.refusal.specs.declared.Refusal.{Refusal}
use Rattle.refusal.specs.Outcome.{Outcome, passed, refused, or_else, refused_unless, unless, outcome_of}
use Rattle.refusal.specs.Length as told

-- the library's `and` names the first of two refusals
pub and_else : {A B : Type 0} (r : Result A Refusal) (q : Result B Refusal) → outcome_of (result_and r q)
    ≡ or_else (outcome_of r) (outcome_of q)
and_else (Ok a) q = refl
and_else (Err e) q = refl

pub or_else_assoc : (a b c : Outcome) → or_else (or_else a b) c ≡ or_else a (or_else b c)
or_else_assoc passed b c = refl
or_else_assoc (refused n p) b c = refl

pub or_else_passed : (a : Outcome) → or_else a passed ≡ a
or_else_passed passed = refl
or_else_passed (refused n p) = refl

-- a check that passes wherever the one before it does decides nothing
pub or_else_idle : (a b : Outcome) → (a ≡ passed → b ≡ passed) → or_else a b ≡ a
or_else_idle passed b h = h refl
or_else_idle (refused n p) b h = refl

pub refused_not_passed : {why : Why} {p : ℕ} → refused why p ≡ passed → ⊥
refused_not_passed {why} {p} e = let z : ◌≡◌ {A = ℕ} 0 1 = cc in omega arith

-- the same of what a call that writes says
pub refused_not_written : {why : Why} {p m : ℕ} → told.refused why p ≡ told.written m → ⊥
refused_not_written e = let z : ◌≡◌ {A = ℕ} 0 1 = cc in omega arith

pub both_passed : (a b : Outcome) → or_else a b ≡ passed → (a ≡ passed) × (b ≡ passed)
both_passed passed b e = (refl, e)
both_passed (refused n p) b e = absurd (refused_not_passed e)

pub rule_kept : (b : Bool) (why : Why) (p : ℕ) → refused_unless b why p ≡ passed → b ≡ true
rule_kept true why p e = refl
rule_kept false why p e = absurd (refused_not_passed e)

pub kept_rule : (b : Bool) (why : Why) (p : ℕ) → b ≡ true → refused_unless b why p ≡ passed
kept_rule b why p e = rw e

pub unless_kept : (b : Bool) (n p : ℕ) → unless b n p ≡ passed → b ≡ true
unless_kept b n p = rule_kept b (by n) p

pub kept_unless : (b : Bool) (n p : ℕ) → b ≡ true → unless b n p ≡ passed
kept_unless b n p = kept_rule b (by n) p
