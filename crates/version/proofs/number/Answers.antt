-- The three numbers are the definition's.
use borrow.Author.Rules.{rules}
use Rattle.version.specs.Version.{version_number}
use Rattle.version.proofs.number.Goals as goal

pub returns : goal.returns
unfolding version_number
returns c = search rules
