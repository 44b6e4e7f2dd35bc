-- The wrapping sum is the paper's.
use Rattle.std.proofs.Common.{rules}
use Rattle.sha256_words.specs.Words.{◌⊞◌}
use Rattle.sha256_words.proofs.words.add.Goals as goal

pub returns : goal.returns
unfolding ◌⊞◌
returns c = search rules
