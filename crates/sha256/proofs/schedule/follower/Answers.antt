-- The code adds what the definition adds, in its order.
use Rattle.sha256.specs.Inner.Ring.{follower}
use Rattle.sha256.proofs.schedule.follower.Goals as goal

pub returns : goal.returns
unfolding follower
returns c = rw (
  c.add-2.ensures,
  c.add.ensures,
  c.lower_sigma0.ensures,
  c.add-x.ensures,
  c.lower_sigma1.ensures,
)
