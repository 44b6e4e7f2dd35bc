-- The tests that led to each `return` are those of `value`.
use Rattle.lent.proofs.Tests.{tests}
use Rattle.zone.specs.Alphabet.{is_digit, is_letter}
use Rattle.digit.specs.Check.{value}
use Rattle.digit.proofs.sum.value.Goals as goal

pub overflow_cast-result : goal.overflow_cast-result
unfolding value is_digit is_letter
overflow_cast-result c = search tests

pub overflow_add-result : goal.overflow_add-result
unfolding value is_digit is_letter
overflow_add-result c = search tests

pub overflow_cast-result-in-65-to-90 : goal.overflow_cast-result-in-65-to-90
unfolding value is_digit is_letter
overflow_cast-result-in-65-to-90 c = search tests

pub returns-in-48-to-57 : goal.returns-in-48-to-57
unfolding value is_digit is_letter
returns-in-48-to-57 c = search tests

pub returns-in-65-to-90 : goal.returns-in-65-to-90
unfolding value is_digit is_letter
returns-in-65-to-90 c = search tests

pub returns-in_default : goal.returns-in_default
unfolding value is_digit is_letter
returns-in_default c = search tests

pub returns-in_default-2 : goal.returns-in_default-2
unfolding value is_digit is_letter
returns-in_default-2 c = search tests

pub returns-in_default-3 : goal.returns-in_default-3
unfolding value is_digit is_letter
returns-in_default-3 c = search tests
