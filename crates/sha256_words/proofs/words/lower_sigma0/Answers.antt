-- The rotations and the shift are the paper's.
use Rattle.sha256_words.specs.Functions.{σ0}
use Rattle.sha256_words.proofs.words.lower_sigma0.Goals as goal

pub returns : goal.returns
unfolding σ0
returns c = c.two_rotated.ensures
