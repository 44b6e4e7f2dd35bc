-- The expected digit where what was read is entered: document 02, 2026-07, "every refusal 9 shall carry that digit up through
-- text and presentation to the C host. Every other refusal, and a success at the C host, has 255 there."
use Rattle.std.specs.Prelude.{ℕ, ◌≤◌, ◌≡◌}
use Rattle.refusal.specs.Numbers.{expecting, no_digit, number_of, expected_of}
use Rattle.refusal.specs.Outcome.{Outcome, refused}
use Rattle.refusal.specs.Length as told

-- the numbers of what a call that writes says
abbrev pub number_told : told.Length → ℕ
number_told (told.written n) = 0
number_told (told.refused why p) = number_of why

abbrev pub expected_told : told.Length → ℕ
expected_told (told.written n) = no_digit
expected_told (told.refused why p) = expected_of why

abbrev pub value_told : told.Length → ℕ
value_told (told.written n) = n
value_told (told.refused why p) = p

-- the numbers that a host is told where this was read
pub record DigitTold (o : Outcome) (number expected value : ℕ) : Type 0 where
  -- a wrong check digit: its digit and its place, as they were read
  pub carried : (d p : ℕ) → o ≡ refused (expecting d) p → (number ≡ 9) × (expected ≡ d) × (value ≡ p)
  -- 9 is told of nothing else
  pub of_a_digit : number ≡ 9 → (d p : ℕ) × (o ≡ refused (expecting d) p)
  -- and every 9 with a digit, 0 to 9
  pub one_digit : number ≡ 9 → expected ≤ 9
  pub else_none : (number ≡ 9 → ⊥) → expected ≡ 255
