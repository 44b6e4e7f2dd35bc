-- The code is the paper's formula.
use Rattle.std.proofs.Common.{rules}
use Rattle.sha256_words.specs.Words.{rotr}
use Rattle.sha256_words.proofs.words.rotr.Goals as goal

pub returns : goal.returns
unfolding rotr
returns c = search rules
