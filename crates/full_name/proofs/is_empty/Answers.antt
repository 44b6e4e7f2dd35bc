-- The numbers of the stretch.
use borrow.Author.Rules.{rules}
use Rattle.full_name.specs.FullName.{is_empty}
use Rattle.full_name.proofs.is_empty.Goals as goal

pub returns : goal.returns
unfolding is_empty
returns c = search rules
