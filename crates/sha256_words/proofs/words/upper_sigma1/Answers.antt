-- The rotations are the paper's.
use Rattle.sha256_words.specs.Functions.{Σ1}
use Rattle.sha256_words.proofs.words.upper_sigma1.Goals as goal

pub returns : goal.returns
unfolding Σ1
returns c = c.three_rotated.ensures
