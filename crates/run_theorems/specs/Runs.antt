-- Demand 3 for runs of entries: lists of houses and records, the bytes that they give, and what the reading of any bytes says.
-- Document 01, "The entry, most significant bit first".
use Rattle.std.specs.Prelude.{ℕ, zero, suc, ◌+◌, ◌-◌, ◌≤◌, ◌<◌, ◌≡◌, Bool, true, ◌&&◌, List, [], ◌∷◌, ◌++◌, length, take, drop}
use Rattle.refusal.specs.Numbers.{by}
use Rattle.zone.specs.declared.record.Record.{Record}
use Rattle.sound.specs.Sound.{is_sound}
use Rattle.entry.specs.Entry.{is_house, entry_of}
use Rattle.runs.specs.Run.{Onward, next, none, refused, read_entry}

-- what one entry holds: "an entry from a house and a record"
pub record Line : Type 0 where
  pub house : ℕ
  pub kept : Record

-- "House 15 bits (1-32,767)", and a sound record: what a writer does not refuse by 17
unfoldable pub is_kept : Line → Bool
is_kept l = is_house l.house && is_sound l.kept

-- every line of a list
unfoldable pub all_kept : List Line → Bool
all_kept [] = true
all_kept (l ∷ ls) = is_kept l && all_kept ls

-- the bytes of a list, its entries joined: "An empty run is the empty list"
unfoldable pub joined : List Line → List ℕ
joined [] = []
joined (l ∷ ls) = entry_of l.house l.kept ++ joined ls

-- what a run was read as, and how the reading stopped
pub record Reading : Type 0 where
  pub lines : List Line
  pub stop : Onward

-- one answer, "each with the offset of the next", and then the reading from there on; it stops where none is left, or by 18
unfoldable pub onwards : Onward → Line → (ℕ → Reading) → Reading
onwards (next n) l rest = record { lines = l ∷ (rest n).lines; stop = (rest n).stop }
onwards none l rest = record { lines = []; stop = none }
onwards (refused n p) l rest = record { lines = []; stop = refused n p }

-- the house and the record of an answer
unfoldable pub line_at : List ℕ → ℕ → Line
line_at w at = record { house = (read_entry w at).house; kept = (read_entry w at).kept }

-- "A run is read entry by entry, each with the offset of the next", here at most so many steps, of which the last finds the end
unfoldable pub read_from : ℕ → List ℕ → ℕ → Reading
read_from zero w at = record { lines = []; stop = refused (by 18) at }
read_from (suc most) w at = onwards (read_entry w at).onward (line_at w at) (read_from most w)

-- the whole run: no entry is empty, so there are no more of them than bytes
unfoldable pub read_run : List ℕ → Reading
read_run w = read_from (suc (length w)) w 0

-- the bytes from an offset to the next are the entry of a house and a record that are kept: not "a length or next offset made up"
pub record Passed (w : List ℕ) (at n h : ℕ) (r : Record) : Type 0 where
  pub house_kept : is_house h ≡ true
  pub record_kept : is_sound r ≡ true
  pub next_offset : n ≡ at + length (entry_of h r)
  pub within : n ≤ length w
  pub octets_passed : take (n - at) (drop at w) ≡ entry_of h r

-- "18, not an entry": the bytes begin with no entry of a kept house and record, whatever follows it
abbrev pub NoEntry : List ℕ → Type 0
NoEntry s = (l : Line) (rest : List ℕ) → is_kept l ≡ true → s ≡ entry_of l.house l.kept ++ rest → ⊥

-- how the reading of bytes stops that was read as a list
pub data Ends (w : List ℕ) (ls : List Line) : Onward → Type 0 where
  -- "at the end the answer is that none is left": the bytes are those of the list
  ended : w ≡ joined ls → Ends w ls none
  -- 18, "start of that entry": the bytes begin with those of the list, go on behind them, and no entry stands there
  broken : (p : ℕ) → p ≡ length (joined ls) → p < length w → w ≡ joined ls ++ drop p w → NoEntry (drop p w)
      → Ends w ls (refused (by 18) p)
