-- The tests are those of `is_leap`.
use mathlib.Core.Path.{refl}
use Rattle.seal_fields.specs.Day.{is_leap}
use Rattle.seal_fields.proofs.day.is_leap.Goals as goal

pub returns : goal.returns
unfolding is_leap
returns c = refl
