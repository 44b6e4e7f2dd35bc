-- Feature 02, or another.
use borrow.Author.Tests.{eq-eqb, ne_eqb}
use Rattle.seal_features.specs.Features.{feature_rule}
use Rattle.seal_features.proofs.features.keeps_rule.Goals as goal

pub returns-then-octet-eq-TEXT : goal.returns-then-octet-eq-TEXT
unfolding feature_rule
returns-then-octet-eq-TEXT c = rw (← c.octet.ensures, eq-eqb _ _ c.if-octet-eq-TEXT.true, c.has_octets.ensures)

pub returns-else-octet-eq-TEXT : goal.returns-else-octet-eq-TEXT
unfolding feature_rule
returns-else-octet-eq-TEXT c = rw (← c.octet.ensures, ne_eqb _ _ c.if-octet-eq-TEXT.false)
