-- The tests are those of `is_value`.
use mathlib.Core.Path.{refl}
use Rattle.c40.specs.Values.{is_value}
use Rattle.c40.proofs.pair.is_value.Goals as goal

pub returns : goal.returns
unfolding is_value
returns c = refl
