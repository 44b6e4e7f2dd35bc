-- Three comparisons.
use mathlib.Core.Path.{refl}
use Rattle.seal_writing.specs.Carried.{is_emergency}
use Rattle.seal_writing.proofs.carried.is_emergency.Goals as goal

pub returns : goal.returns
unfolding is_emergency
returns c = refl
