-- The tests are those of `is_letter_or_digit`.
use Rattle.seal_header.specs.Reference.{is_letter_or_digit}
use Rattle.seal_header.proofs.reference.is_letter_or_digit.Goals as goal

pub returns : goal.returns
unfolding is_letter_or_digit
returns c = rw (c.is_digit.ensures, c.is_letter.ensures)
