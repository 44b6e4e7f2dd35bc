-- The rotations and the shift are the paper's.
use Rattle.sha256_words.specs.Functions.{σ1}
use Rattle.sha256_words.proofs.words.lower_sigma1.Goals as goal

pub returns : goal.returns
unfolding σ1
returns c = c.two_rotated.ensures
