-- The end, or FF.
use Rattle.seal_features.specs.Features.{is_end}
use Rattle.seal_features.proofs.features.is_end.Goals as goal

pub returns : goal.returns
unfolding is_end
returns c = rw c.octet.ensures
