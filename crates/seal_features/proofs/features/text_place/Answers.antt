-- The place of feature 02 once it is passed.
use borrow.Author.Tests.{eq-eqb, ne_eqb}
use Rattle.seal_features.specs.Features.{text_place}
use Rattle.seal_features.proofs.features.text_place.Goals as goal

pub returns-then-octet-eq-TEXT : goal.returns-then-octet-eq-TEXT
unfolding text_place
returns-then-octet-eq-TEXT c = rw (← c.octet.ensures, eq-eqb _ _ c.if-octet-eq-TEXT.true)

pub returns-else-octet-eq-TEXT : goal.returns-else-octet-eq-TEXT
unfolding text_place
returns-else-octet-eq-TEXT c = rw (← c.octet.ensures, ne_eqb _ _ c.if-octet-eq-TEXT.false)
