-- What was seen so far, with what is left from here, is what is seen of the whole.
use Rattle.object.specs.Inner.Seen.{none, tally_from}
use mathlib.Core.Path.{◌≡◌}
use Prim.Native.Nat.{◌≤◌, ◌-◌}
use lib.ListN.{length}
use Rattle.object.proofs.entries.entries.Given as goal

abbrev pub invariant-loop-at : goal.invariant-loop-at
invariant-loop-at l = (l.seen.count ≤ l.at) × (tally_from l.s l.at l.seen ≡ tally_from l.s l.start none)

abbrev pub decreases-loop-at : goal.decreases-loop-at
decreases-loop-at l = length l.s - l.at
