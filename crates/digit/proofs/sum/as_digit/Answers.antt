-- A number below 10 fits an octet.
use borrow.Author.Rules.{rules}
use Rattle.digit.specs.Inner.Thirds.{as_digit}
use Rattle.digit.proofs.sum.as_digit.Goals as goal

pub returns : goal.returns
unfolding as_digit
returns c = search rules
