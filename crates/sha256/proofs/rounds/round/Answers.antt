-- Field by field.
use Rattle.sha256.specs.Hash.{round}
use Rattle.sha256.proofs.rounds.round.Goals as goal

pub returns : goal.returns
unfolding round
returns c = rw (c.add-2.ensures, c.add.ensures, c.t2-y.ensures, c.t1-x.ensures)
