-- Field by field.
use borrow.Author.Rules.{rules}
use Rattle.sha256.specs.Hash.{started}
use Rattle.sha256.proofs.rounds.started.Goals as goal

pub returns : goal.returns
unfolding started
returns c = search rules
