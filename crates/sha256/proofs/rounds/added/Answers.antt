-- Word by word.
use Rattle.sha256.specs.Hash.{added}
use Rattle.sha256.proofs.rounds.added.Goals as goal

pub returns : goal.returns
unfolding added
returns c = rw (
  c.add-8.ensures,
  c.add-7.ensures,
  c.add-6.ensures,
  c.add-5.ensures,
  c.add-4.ensures,
  c.add-3.ensures,
  c.add-2.ensures,
  c.add.ensures,
)
