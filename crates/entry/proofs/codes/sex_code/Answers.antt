-- The tests that led to each `return` are those of `sex_code`.
use Rattle.lent.proofs.Tests.{tests}
use Rattle.entry.specs.Codes.{sex_code}
use Rattle.entry.proofs.codes.sex_code.Goals as goal

pub returns-in-70 : goal.returns-in-70
unfolding sex_code
returns-in-70 c = search tests

pub returns-in-77 : goal.returns-in-77
unfolding sex_code
returns-in-77 c = (rw c.in-77.is, search tests)

pub returns-in_default : goal.returns-in_default
unfolding sex_code
returns-in_default c = search tests
