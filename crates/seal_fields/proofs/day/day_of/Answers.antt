-- The three parts of the number.
use mathlib.Core.Path.{refl}
use Rattle.seal_fields.specs.Day.{day_of}
use Rattle.seal_fields.proofs.day.day_of.Goals as goal

pub returns : goal.returns
unfolding day_of
returns c = refl
