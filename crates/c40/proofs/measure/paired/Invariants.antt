-- What is left, behind n characters, answers the same as the whole.
use Prim.Native.Nat.{◌≤◌}
use mathlib.Core.Path.{◌≡◌}
use lib.ListN.{length}
use Rattle.c40.specs.Reader.{read_c40}
use Rattle.c40.specs.Inner.Left.{answered, fitted}
use Rattle.c40.proofs.measure.paired.Given as goal

abbrev pub invariant-loop-left : goal.invariant-loop-left
invariant-loop-left l = (l.n ≤ l.room) × (fitted l.room l.n (read_c40 l.left) ≡ answered (read_c40 l.s) l.room)

abbrev pub decreases-loop-left : goal.decreases-loop-left
decreases-loop-left l = length l.left
