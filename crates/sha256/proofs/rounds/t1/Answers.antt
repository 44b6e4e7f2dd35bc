-- The code adds what the definition adds, in its order.
use Rattle.sha256.specs.Hash.{T1}
use Rattle.sha256.proofs.rounds.t1.Goals as goal

pub returns : goal.returns
unfolding T1
returns c = rw (
  c.add-2.ensures,
  c.add.ensures,
  c.add-y.ensures,
  c.ch.ensures,
  c.add-x.ensures,
  c.upper_sigma1.ensures,
)
