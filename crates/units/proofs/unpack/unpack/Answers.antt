-- Where there is room, and enough to read, the loop.
use borrow.Author.Tests.{le-leb, lt-leb, lt-ltb, le-ltb}
use Rattle.units.specs.Unpacked.{unpacked_over}
use Rattle.units.proofs.unpack.unpack.Goals as goal
use Rattle.units.proofs.unpack.unpack.Goals.{else-fours-to-via-then-fours-to+else-at-fours, else-fours-to-via-else-fours-to}

pub returns-then-at-fours : goal.returns-then-at-fours
unfolding unpacked_over
returns-then-at-fours c = rw (le-leb _ _ c.if-fours-to.true, lt-ltb _ _ c.if-at-fours.true) c.unpack_fours.ensures

pub returns-else-fours-to : goal.returns-else-fours-to
unfolding unpacked_over
returns-else-fours-to c = elim c.else-fours-to.branch [
  | else-fours-to-via-then-fours-to+else-at-fours w ↦ rw (le-leb _ _ w.if-fours-to.true, le-ltb _ _ w.if-at-fours.false)
  | else-fours-to-via-else-fours-to w ↦ rw (lt-leb _ _ w.if-fours-to.false)
]
