-- The rotations are the paper's.
use Rattle.sha256_words.specs.Functions.{Σ0}
use Rattle.sha256_words.proofs.words.upper_sigma0.Goals as goal

pub returns : goal.returns
unfolding Σ0
returns c = c.three_rotated.ensures
