-- What was passed is worked out, and 0 stands behind it.
use Prim.Native.Nat.{◌≤◌}
use mathlib.Core.Path.{◌≡◌}
use lib.ListN.{length}
use Rattle.digit.proofs.Counting.{CountsUpTo}
use Rattle.digit.proofs.thirds.counts.Given as goal

abbrev pub invariant-loop-i : goal.invariant-loop-i
invariant-loop-i l = (length l.s ≤ 90) × (length l.counts ≡ 90) × CountsUpTo l.i l.s l.counts
