-- The tests are those of `is_named`.
use mathlib.Core.Path.{refl}
use Rattle.details.specs.Tags.{is_named}
use Rattle.details.proofs.element.is_named.Goals as goal

pub returns : goal.returns
unfolding is_named
returns c = refl
