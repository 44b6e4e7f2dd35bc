-- What was copied stands before what the range had.
use Prim.Native.Nat.{◌≤◌}
use mathlib.Core.Path.{◌≡◌}
use mathlib.Core.List.{◌++◌}
use lib.ListN.{length, take, drop}
use Rattle.seal_writing.proofs.parts.copy_all.Given as goal

abbrev pub invariant-loop-i : goal.invariant-loop-i
invariant-loop-i l =
    (length l.from ≤ length l.initial.to) × (l.i ≤ length l.from) × (length l.to ≡ length l.initial.to)
    × (l.to ≡ take l.i l.from ++ drop l.i l.initial.to)
