-- What a C host may rely on where what was read is entered: document 01, "What the server lends and gets". When 0 is told, and
-- what a call that tells 0 leaves in the range.
use Rattle.std.specs.Prelude.{ℕ, ◌≤◌, ◌≡◌, true, List, ◌++◌, length, drop}
use Rattle.zone.specs.declared.record.Record.{Record}
use Rattle.entry.specs.Entry.{size, is_house}

-- what was lent keeps its rules, the house is 1 to 32,767 and the range has room for the record's entry
pub record Allowed (Rules : Type 0) (house : ℕ) (r : Record) (out : List ℕ) : Type 0 where
  pub kept : Rules
  pub housed : is_house house ≡ true
  pub room : size r ≤ length out

-- the octets stand in front of the range, what stood behind them stands there as it was, and their number is told
pub record Leaves (octets out : List ℕ) (value : ℕ) (after : List ℕ) : Type 0 where
  pub told : value ≡ length octets
  pub in_front : after ≡ octets ++ drop (length octets) out
