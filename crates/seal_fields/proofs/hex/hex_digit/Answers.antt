-- The test is that of `hex_digit`.
use Rattle.lent.proofs.Tests.{tests}
use Rattle.seal_fields.specs.Hex.{hex_digit}
use Rattle.seal_fields.proofs.hex.hex_digit.Goals as goal

pub overflow_add-result : goal.overflow_add-result
unfolding hex_digit
overflow_add-result c = search tests

pub overflow_sub-result : goal.overflow_sub-result
unfolding hex_digit
overflow_sub-result c = search tests

pub overflow_add-result-else-d-le9 : goal.overflow_add-result-else-d-le9
unfolding hex_digit
overflow_add-result-else-d-le9 c = search tests

pub returns-then-d-le9 : goal.returns-then-d-le9
unfolding hex_digit
returns-then-d-le9 c = search tests

pub returns-else-d-le9 : goal.returns-else-d-le9
unfolding hex_digit
returns-else-d-le9 c = search tests
