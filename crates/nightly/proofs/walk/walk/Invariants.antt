-- What was seen and what is left to see from here are what the whole list gives.
use Prim.Native.Nat.{◌-◌, ◌≤◌}
use mathlib.Core.Path.{◌≡◌}
use lib.ListN.{length}
use Rattle.nightly.specs.Key.{key_at}
use Rattle.nightly.specs.Inner.Seen.{seen_of, walked}
use Rattle.nightly.proofs.Walking.{left}
use Rattle.nightly.proofs.walk.walk.Given as goal

abbrev pub invariant-loop-at : goal.invariant-loop-at
invariant-loop-at l =
    (l.entries ≤ l.at) × (seen_of l.house l.entries l.own (left l.list (key_at l.list l.before) l.at) ≡ walked l.list l.house)

abbrev pub decreases-loop-at : goal.decreases-loop-at
decreases-loop-at l = length l.list - l.at
