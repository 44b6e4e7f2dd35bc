-- The length and the next offset that an answer gives, of each of its cases: document 01, "Refusal numbers": "Every refusal gives
-- the blank record (TD1, fillers, lengths 0), house and next offset 0, and length 0". (Record and house stand in the answers.)
use Rattle.std.specs.Prelude.{ℕ, ◌≡◌}
use Rattle.refusal.specs.Length as told
use Rattle.tlv.specs.Read.{Read, value, refusal}
use Rattle.runs.specs.Run as run

abbrev pub length_given : told.Length → ℕ
length_given (told.written n) = n
length_given (told.refused why place) = 0

-- "at the end the answer is that none is left, with the blank record and house and next offset 0"
abbrev pub next_given : run.Onward → ℕ
next_given (run.next offset) = offset
next_given run.none = 0
next_given (run.refused why place) = 0

-- how many elements a file has: none where it is refused
abbrev pub count_given : Read ℕ → ℕ
count_given (value n) = n
count_given (refusal why place) = 0

-- what C receives beside the number: with 0 what the answer gives, and with a refusal its place, where the length, the
-- offset or the count given is 0
pub record Gives (refuses : ℕ → Type 0) (given number value : ℕ) : Type 0 where
  pub when_zero : number ≡ 0 → value ≡ given
  pub when_refused : (place : ℕ) → refuses place → (given ≡ 0) × (value ≡ place)
