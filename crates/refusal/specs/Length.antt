-- What a call that writes says in the paper's terms: a length, or why it refuses and at which place (document 01,
-- "Refusal numbers").
use Rattle.std.specs.Prelude.{ℕ, Result, Ok, Err}
use Rattle.refusal.specs.declared.Refusal.{Refusal}
use Rattle.refusal.specs.Numbers.{Why, why_of}

pub data Length : Type 0 where
  written : ℕ → Length
  refused : (why : Why) (place : ℕ) → Length

-- the paper's terms of each case
abbrev pub length_of : Result ℕ Refusal → Length
length_of (Ok n) = written n
length_of (Err r) = refused (why_of r.cause) r.place
