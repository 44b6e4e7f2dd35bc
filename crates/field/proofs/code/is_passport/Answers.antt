-- The tests are those of `passport_rule`.
use Rattle.field.specs.Code.{passport_rule, is_second}
use Rattle.field.proofs.code.is_passport.Goals as goal

pub returns : goal.returns
unfolding passport_rule is_second
returns c = rw c.is_letter_or_filler.ensures
