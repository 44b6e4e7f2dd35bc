-- What a reading that goes from place to place gives: a value, or the first refusal. Steps are joined in the paper's order.
use Rattle.std.specs.Prelude.{ℕ, Result, Ok, Err}
use Rattle.refusal.specs.declared.Refusal.{Refusal}
use Rattle.refusal.specs.Numbers.{Why, why_of}
use Rattle.refusal.specs.Outcome.{Outcome, passed, refused}

pub data Read (A : Type 0) : Type 0 where
  value : A → Read A
  refusal : (why : Why) (place : ℕ) → Read A

-- a step, and then what goes on from its value
unfoldable pub and_then : {A B : Type 0} → Read A → (A → Read B) → Read B
and_then (value a) go = go a
and_then (refusal n p) go = refusal n p

-- a check, and then what goes on
unfoldable pub checked : {A : Type 0} → Outcome → Read A → Read A
checked passed next = next
checked (refused n p) next = refusal n p

-- whether there is a value, or the refusal
unfoldable pub outcome_in : {A : Type 0} → Read A → Outcome
outcome_in (value a) = passed
outcome_in (refusal n p) = refused n p

-- the paper's number and values of each case of a result
abbrev pub read_of : {A : Type 0} → Result A Refusal → Read A
read_of (Ok a) = value a
read_of (Err r) = refusal (why_of r.cause) r.place
