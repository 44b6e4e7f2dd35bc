-- The table is the paper's.
use borrow.Author.Rules.{rules}
use Rattle.sha256.specs.Constants.{H0}
use Rattle.sha256.proofs.constants.initial_hash.Goals as goal

pub returns : goal.returns
unfolding H0
returns c = search rules
