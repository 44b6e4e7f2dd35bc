-- A copy to the part from a place on; past the end there is no such part.
use borrow.Author.Rules.{rules}
use Rattle.lent.proofs.Lists.{copy_past, copy_into}
use Rattle.lent.proofs.copy_at.Goals as goal

pub returns-then-at-to : goal.returns-then-at-to
returns-then-at-to c = let a = c.args in
    copy_into a.to.now a.at a.from.now c.copy.new.to c.copy.ensures

pub returns-else-at-to : goal.returns-else-at-to
returns-else-at-to c = let a = c.args in
    copy_past a.to.now a.at a.from.now (search rules)
