-- What a call that writes answers and what it leaves of its output, one definition for all of them: document 01, "Refusal
-- numbers": a refusal "changes no lent byte"; "A success writes the bytes reported and no others."; 16, "lent output too short",
-- at 0, is tested last.
use Rattle.std.specs.Prelude.{ℕ, ◌≤◌, ◌≡◌, true, cond, List, ◌++◌, leb, length, drop}
use Rattle.refusal.specs.Numbers.{Why, by, number_of}
use Rattle.refusal.specs.Calls.{is_of}
use Rattle.refusal.specs.Outcome.{Outcome, passed, refused}
use Rattle.refusal.specs.Length as told

-- the refusal of the tests before, then 16, else how many octets are written
abbrev pub write_answer : Outcome → (n : ℕ) → (out : List ℕ) → told.Length
write_answer passed n out = cond (leb n (length out)) (told.written n) (told.refused (by 16) 0)
write_answer (refused why p) n out = told.refused why p

-- the octets in front of what stood behind them, where they are written; else the output as it was
abbrev pub write_out : Outcome → (n : ℕ) → (octets out : List ℕ) → List ℕ
write_out passed n octets out = cond (leb n (length out)) (octets ++ drop n out) out
write_out (refused why p) n octets out = out

-- what a refusal has: one of the call's numbers, and a place no further than the end of what was lent
abbrev pub Told : (numbers : List ℕ) (end : ℕ) → Why → ℕ → Type 0
Told numbers end why p = (is_of numbers (number_of why) ≡ true) × (p ≤ end)

-- DEMAND 1 of such a call, which refuses by these numbers, where what was lent for reading ends at `end`: a refusal has one of
-- them and a place no further than that end, and leaves every octet; a success changes the octets that it reports and no others
pub record Answers (numbers : List ℕ) (end : ℕ) (out : List ℕ) (l : told.Length) (after : List ℕ) : Type 0 where
  pub when_refused : (why : Why) (p : ℕ) → l ≡ told.refused why p → Told numbers end why p × (after ≡ out)
  pub when_written : (n : ℕ) → l ≡ told.written n → (n ≤ length out) × (length after ≡ length out) × (drop n after ≡ drop n out)
