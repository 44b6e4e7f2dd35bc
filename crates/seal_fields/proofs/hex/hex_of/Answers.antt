-- The tests that led to each `return` are those of `hex_of`.
use Rattle.lent.proofs.Tests.{tests}
use Rattle.zone.specs.Alphabet.{is_digit}
use Rattle.seal_fields.specs.Hex.{is_hex_letter, hex_of}
use Rattle.seal_fields.proofs.hex.hex_of.Goals as goal

pub overflow_cast-result : goal.overflow_cast-result
unfolding hex_of is_hex_letter is_digit
overflow_cast-result c = search tests

pub overflow_cast-result-in-65-to-70 : goal.overflow_cast-result-in-65-to-70
unfolding hex_of is_hex_letter is_digit
overflow_cast-result-in-65-to-70 c = search tests

pub overflow_add-result : goal.overflow_add-result
unfolding hex_of is_hex_letter is_digit
overflow_add-result c = search tests

pub returns-in-48-to-57 : goal.returns-in-48-to-57
unfolding hex_of is_hex_letter is_digit
returns-in-48-to-57 c = (search tests, search tests)

pub returns-in-65-to-70 : goal.returns-in-65-to-70
unfolding hex_of is_hex_letter is_digit
returns-in-65-to-70 c = (search tests, search tests)

pub returns-in_default : goal.returns-in_default
unfolding hex_of is_hex_letter is_digit
returns-in_default c = (search tests, search tests)

pub returns-in_default-2 : goal.returns-in_default-2
unfolding hex_of is_hex_letter is_digit
returns-in_default-2 c = (search tests, search tests)

pub returns-in_default-3 : goal.returns-in_default-3
unfolding hex_of is_hex_letter is_digit
returns-in_default-3 c = (search tests, search tests)
