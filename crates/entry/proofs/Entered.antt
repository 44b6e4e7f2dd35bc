-- What was read is entered exactly when it passed, house and record are sound and the range has room: then the entry stands in
-- the range, and behind it what stood there before; else nothing is changed.
use Prim.Native.Nat.{ℕ, ◌≤◌}
use mathlib.Core.Path.{◌≡◌}
use mathlib.Core.Bool.{true, ◌&&◌}
use mathlib.Core.List.{List, ◌++◌}
use lib.ListN.{length, drop}
use Rattle.lent.proofs.Bools.{and_both}
use Rattle.refusal.specs.Numbers.{Why}
use Rattle.refusal.specs.Outcome.{Outcome, passed, or_else, unless}
use Rattle.refusal.specs.Length as told
use Rattle.refusal.proofs.Outcomes.{both_passed, unless_kept}
use Rattle.refusal.proofs.Output.{writes, writes_only, refused_leaves}
use Rattle.zone.specs.declared.record.Record.{Record}
use Rattle.sound.specs.Sound.{is_sound}
use Rattle.entry.specs.Entry.{entry_of, size, is_house}
use Rattle.entry.specs.Entered.{entered_answer, entered_out}

-- what is asked for: the reader's checks, then 17, then 16
pub record Enters (o : Outcome) (house : ℕ) (r : Record) (out : List ℕ) : Type 0 where
  pub read : o ≡ passed
  pub housed : is_house house ≡ true
  pub sound : is_sound r ≡ true
  pub room : size r ≤ length out

module _ (house : ℕ) (r : Record) (out : List ℕ) where
  -- the tests before 16
  abbrev tests : Outcome → Outcome
  tests o = or_else o (unless (is_house house && is_sound r) 17 0)

  -- the entry is written
  pub entered : (o : Outcome) → Enters o house r out
      → (entered_answer o house r out ≡ told.written (size r))
      × (entered_out o house r out ≡ entry_of house r ++ drop (size r) out)
  unfolding entered_answer entered_out
  entered o h =
      writes (size r) (entry_of house r) out (tests o) (rw (h.read, h.housed, h.sound)) h.room

  -- it is written in no other case
  pub entered_only : (o : Outcome) (n : ℕ) → entered_answer o house r out ≡ told.written n → Enters o house r out
  unfolding entered_answer
  entered_only o n e =
      let w = writes_only (size r) (entry_of house r) out (tests o) n e in
      let t = both_passed o (unless (is_house house && is_sound r) 17 0) w.0 in
      let both = and_both (is_house house) (is_sound r) (unless_kept (is_house house && is_sound r) 17 0 t.1) in
      record { read = t.0; housed = both.0; sound = both.1; room = w.1 }

  -- a refusal changes nothing
  pub not_entered : (o : Outcome) (n : Why) (p : ℕ) → entered_answer o house r out ≡ told.refused n p
      → entered_out o house r out ≡ out
  unfolding entered_answer entered_out
  not_entered o n p e = refused_leaves (size r) (entry_of house r) out (tests o) n p e
