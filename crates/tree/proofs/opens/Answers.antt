-- Two tests.
use Rattle.tree.specs.Tag.{is_constructed}
use Rattle.tree.proofs.opens.Goals as goal

pub returns : goal.returns
unfolding is_constructed
returns c = rw c.octet.ensures
