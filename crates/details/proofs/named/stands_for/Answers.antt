-- One test.
use Rattle.lent.proofs.Tests.{tests}
use Rattle.details.specs.Tags.{stands_for}
use Rattle.details.proofs.named.stands_for.Goals as goal

pub returns-then-named-eq-OTHER_NAMES : goal.returns-then-named-eq-OTHER_NAMES
unfolding stands_for
returns-then-named-eq-OTHER_NAMES c = search tests

pub returns-else-named-eq-OTHER_NAMES : goal.returns-else-named-eq-OTHER_NAMES
unfolding stands_for
returns-else-named-eq-OTHER_NAMES c = search tests
