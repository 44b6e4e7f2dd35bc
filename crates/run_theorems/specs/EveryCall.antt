-- DEMAND 1, in what each call answers: "Every public call accepts every input and refuses by number and place; a refusal gives
-- the blank record and changes no lent byte." Document 01, "Refusal numbers" and "What the server lends and gets". Of the calls
-- that write it is `Answers` (refusal, specs/Output).
use Rattle.std.specs.Prelude.{ℕ, ◌≤◌, ◌≡◌, true, List, length, drop}
use Rattle.refusal.specs.Numbers.{Why}
use Rattle.refusal.specs.Calls.{of_run, is_of, tells}
use Rattle.refusal.specs.Outcome.{refused}
use Rattle.refusal.specs.Output.{Told}
use Rattle.zone.specs.Record.{blank}
use Rattle.text.specs.Read.{Answer}
use Rattle.runs.specs.Run as run

-- what was lent ends at `end`: a refusal has one of the reader's numbers and a place no further, and gives the blank record
pub record Reads (numbers : List ℕ) (end : ℕ) (a : Answer) : Type 0 where
  pub when_refused : (why : Why) (p : ℕ) → a.outcome ≡ refused why p → Told numbers end why p × (a.kept ≡ blank)

-- what stands at an offset of a run: a refusal is by a run's number at that offset, also past the end, and gives the blank record
-- and house 0; so does the answer that none is left
pub record Steps (at : ℕ) (r : run.Standing) : Type 0 where
  pub when_refused : (why : Why) (p : ℕ) → r.onward ≡ run.refused why p
      → (tells of_run why ≡ true) × (p ≡ at) × (r.house ≡ 0) × (r.kept ≡ blank)
  pub when_none : r.onward ≡ run.none → (r.house ≡ 0) × (r.kept ≡ blank)

-- the number and the value that C receives of a call that writes, and the output afterwards
pub record AnswersInC (numbers : List ℕ) (end : ℕ) (out : List ℕ) (number value : ℕ) (after : List ℕ) : Type 0 where
  pub when_refused : (number ≡ 0 → ⊥) → (is_of numbers number ≡ true) × (value ≤ end) × (after ≡ out)
  pub when_zero : number ≡ 0 → (value ≤ length out) × (length after ≡ length out) × (drop value after ≡ drop value out)
