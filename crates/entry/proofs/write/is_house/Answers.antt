-- The definition's tests.
use mathlib.Core.Path.{refl}
use Rattle.entry.specs.Entry.{is_house}
use Rattle.entry.proofs.write.is_house.Goals as goal

pub returns : goal.returns
unfolding is_house
returns c = refl
