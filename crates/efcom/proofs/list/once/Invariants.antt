-- What is left from i on decides; the marks are those of the octets before i.
use mathlib.Core.List.{[]}
use Rattle.efcom.specs.EfCom.{once_from}
use Rattle.efcom.proofs.TagList.{back_from}
use Rattle.lent.proofs.Marks.{Marks}
use mathlib.Core.Path.{◌≡◌}
use Prim.Native.Nat.{◌≤◌, ◌+◌, ◌-◌}
use lib.ListN.{length, drop}
use Rattle.efcom.proofs.list.once.Given as goal

abbrev pub invariant-loop-i : goal.invariant-loop-i
invariant-loop-i l = (l.i ≤ length l.tags) × (length l.seen ≡ 256) × Marks 256 l.seen (back_from l.i l.tags)
    × (once_from (l.from + l.i) (back_from l.i l.tags) (drop l.i l.tags) ≡ once_from l.from [] l.tags)

abbrev pub decreases-loop-i : goal.decreases-loop-i
decreases-loop-i l = length l.tags - l.i
