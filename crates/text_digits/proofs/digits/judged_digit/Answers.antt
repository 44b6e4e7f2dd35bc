-- The character at the place against the digit, whose number the refusal carries.
-- a digit is not below 0
use Prim.Native.Char.{code}
use borrow.Author.Tests.{leb-true}
use lib.Dec.{leb}
use Rattle.lent.proofs.Bools.{and_both}
use Rattle.zone.specs.Alphabet.{is_digit}
use Rattle.text_digits.specs.Inner.Checks.{written_at}
use Rattle.text_digits.proofs.digits.judged_digit.Goals as goal

pub overflow_sub-expected : goal.overflow_sub-expected
unfolding is_digit
overflow_sub-expected c =
    let digit = c.args.digit in
    leb-true (code "0") digit (and_both (leb (code "0") digit) (leb digit (code "9")) c.requires).0

pub returns : goal.returns
unfolding written_at
returns c = rw (c.unless.ensures, c.octet-there.ensures)
