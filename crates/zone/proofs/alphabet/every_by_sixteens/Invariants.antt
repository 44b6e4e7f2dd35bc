-- The last sixteen and those that were passed are fine; in the end they reach into each other.
use Prim.Native.Nat.{ℕ, ◌≤◌, ◌-◌}
use mathlib.Core.Path.{◌≡◌}
use mathlib.Core.Bool.{Bool, ◌&&◌}
use lib.ListN.{length, take, drop}
use Rattle.zone.specs.Alphabet.{every}
use Rattle.zone.proofs.alphabet.every_by_sixteens.Given as goal

abbrev pub invariant-loop-i : goal.invariant-loop-i
invariant-loop-i g l = (l.i ≤ length l.s)
    × (l.fine ≡ every g.T.Test.test (drop (length l.s - 16) l.s) && every g.T.Test.test (take l.i l.s))

abbrev pub decreases-loop-i : goal.decreases-loop-i
decreases-loop-i g l = length l.s - l.i
