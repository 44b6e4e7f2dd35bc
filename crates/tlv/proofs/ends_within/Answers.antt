-- The one test, that the value ends within.
use borrow.Author.Tests.{le-leb, lt-leb}
use Rattle.tlv.specs.Element.{ends_within}
use Rattle.tlv.proofs.ends_within.Goals as goal

pub returns-then-to-s : goal.returns-then-to-s
unfolding ends_within
returns-then-to-s c = simp (le-leb _ _ c.if-to-s.true)

pub returns-else-to-s : goal.returns-else-to-s
unfolding ends_within
returns-else-to-s c = simp (← c.refuse.ensures, lt-leb _ _ c.if-to-s.false)
