-- The tests are those of `is_day`.
use Rattle.seal_fields.specs.Day.{is_day}
use Rattle.seal_fields.proofs.day.is_day.Goals as goal

pub returns : goal.returns
unfolding is_day
returns c = rw c.days_in-last.ensures
