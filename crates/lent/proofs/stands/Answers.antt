use Rattle.lent.proofs.Comparing.{any_stands}
use Rattle.lent.proofs.stands.Goals as goal

pub returns : goal.returns
returns c = rw c.contains.ensures.value (any_stands c.args.c c.args.s.now)
