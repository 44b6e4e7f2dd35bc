-- Both are digits.
use Rattle.field.proofs.Known.{known_digits}
use Rattle.field.proofs.date.is_known.Goals as goal

pub returns : goal.returns
returns c = rw (c.is_digit-2.ensures, c.is_digit.ensures) (known_digits _ _)
