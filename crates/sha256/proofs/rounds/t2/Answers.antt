-- The code adds what the definition adds.
use Rattle.sha256.specs.Hash.{T2}
use Rattle.sha256.proofs.rounds.t2.Goals as goal

pub returns : goal.returns
unfolding T2
returns c = rw (c.add.ensures, c.maj.ensures, c.upper_sigma0.ensures)
