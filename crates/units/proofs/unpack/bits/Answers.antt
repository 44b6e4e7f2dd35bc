-- Where two octets hold them.
use borrow.Author.Tests.{le-leb, lt-leb}
use Rattle.units.specs.Unpacked.{bits_within}
use Rattle.units.proofs.unpack.bits.Goals as goal

pub returns-then-width-at : goal.returns-then-width-at
unfolding bits_within
returns-then-width-at c = rw (le-leb _ _ c.if-width-at.true) c.bits_of_two.ensures

pub returns-else-width-at : goal.returns-else-width-at
unfolding bits_within
returns-else-width-at c = rw (lt-leb _ _ c.if-width-at.false)
