-- The test is that of `before`.
use borrow.Author.Tests.{eq-eqb, ne_eqb}
use Rattle.seal_header.specs.Reference.{version, before}
use Rattle.seal_header.proofs.reference.before.Goals as goal

pub returns-then-octet-eq2 : goal.returns-then-octet-eq2
unfolding before version
returns-then-octet-eq2 c = simp (← c.octet.ensures, eq-eqb _ _ c.if-octet-eq2.true)

pub returns-else-octet-eq2 : goal.returns-else-octet-eq2
unfolding before version
returns-else-octet-eq2 c = simp (← c.octet.ensures, ne_eqb _ _ c.if-octet-eq2.false)
