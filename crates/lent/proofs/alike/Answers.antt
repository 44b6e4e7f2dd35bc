use Rattle.lent.proofs.Comparing.{pointwise_alike}
use Rattle.lent.proofs.alike.Goals as goal

pub returns : goal.returns
returns c = rw c.eq.ensures (pointwise_alike c.args.a.now c.args.b.now)
