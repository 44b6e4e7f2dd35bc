-- What a check says in the paper's terms: that it passed, or why it refuses and at which place (document 01,
-- "Refusal numbers").
use Rattle.std.specs.Prelude.{ℕ, Bool, true, false, Result, Ok, Err}
use Rattle.refusal.specs.declared.Refusal.{Refusal}
use Rattle.refusal.specs.Numbers.{Why, by, why_of}

pub data Outcome : Type 0 where
  passed : Outcome
  refused : (why : Why) (place : ℕ) → Outcome

-- the paper's terms of each case of a result, whatever it gives where it passes
abbrev pub outcome_of : {A : Type 0} → Result A Refusal → Outcome
outcome_of (Ok a) = passed
outcome_of (Err r) = refused (why_of r.cause) r.place

-- the first of two that is a refusal
abbrev pub or_else : Outcome → Outcome → Outcome
or_else passed next = next
or_else (refused why p) next = refused why p

-- a check that refuses at place p unless the rule holds
abbrev pub refused_unless : Bool → Why → ℕ → Outcome
refused_unless true why p = passed
refused_unless false why p = refused why p

-- by number n
abbrev pub unless : Bool → ℕ → ℕ → Outcome
unless holds n p = refused_unless holds (by n) p
