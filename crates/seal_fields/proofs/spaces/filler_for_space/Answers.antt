-- The test is that of `filled`.
use Rattle.lent.proofs.Tests.{tests}
use Rattle.seal_fields.proofs.spaces.filler_for_space.Goals as goal

pub returns-then-c-eq32 : goal.returns-then-c-eq32
returns-then-c-eq32 c = search tests

pub returns-else-c-eq32 : goal.returns-else-c-eq32
returns-else-c-eq32 c = search tests
