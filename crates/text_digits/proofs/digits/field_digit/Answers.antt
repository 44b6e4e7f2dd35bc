-- The digit worked out, judged.
use Rattle.digit.proofs.Written.{as_digit_digit}
use Rattle.digit.proofs.ByThirds.{thirds_digit}
use Rattle.text_digits.proofs.Written.{written_digit}
use Rattle.text_digits.proofs.digits.field_digit.Goals as goal

pub judged_digit-requires : goal.judged_digit-requires
judged_digit-requires c = rw c.as_digit.ensures (as_digit_digit _)

pub returns : goal.returns
returns c = λ s e. rw (
  c.judged_digit.ensures,
  c.as_digit.ensures,
  c.weighed.ensures.0,
  e,
  thirds_digit s,
  written_digit,
)
