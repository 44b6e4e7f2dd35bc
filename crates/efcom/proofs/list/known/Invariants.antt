-- What is left from i on decides.
use Rattle.efcom.specs.EfCom.{known_from}
use mathlib.Core.Path.{◌≡◌}
use Prim.Native.Nat.{◌≤◌, ◌+◌, ◌-◌}
use lib.ListN.{length, drop}
use Rattle.efcom.proofs.list.known.Given as goal

abbrev pub invariant-loop-i : goal.invariant-loop-i
invariant-loop-i l = (l.i ≤ length l.tags) × (known_from (l.from + l.i) (drop l.i l.tags) ≡ known_from l.from l.tags)

abbrev pub decreases-loop-i : goal.decreases-loop-i
decreases-loop-i l = length l.tags - l.i
