-- Where there is room, the loop.
use borrow.Author.Tests.{le-leb, lt-leb}
use Rattle.packing.specs.Packed.{packed_over}
use Rattle.packing.proofs.pack.pack.Goals as goal
use Rattle.packing.proofs.pack.pack.Goals.{else-fours-s-via-then-fours-s+else-fours-out, else-fours-s-via-else-fours-s}

pub returns-then-fours-out : goal.returns-then-fours-out
unfolding packed_over
returns-then-fours-out c = rw (le-leb _ _ c.if-fours-s.true, le-leb _ _ c.if-fours-out.true) c.pack_fours.ensures

pub returns-else-fours-s : goal.returns-else-fours-s
unfolding packed_over
returns-else-fours-s c = elim c.else-fours-s.branch [
  | else-fours-s-via-then-fours-s+else-fours-out w ↦ rw (le-leb _ _ w.if-fours-s.true, lt-leb _ _ w.if-fours-out.false)
  | else-fours-s-via-else-fours-s w ↦ rw (lt-leb _ _ w.if-fours-s.false)
]
