-- Steps 2, 3 and 4 by the calls' promises.
use Rattle.sha256.specs.Hash.{compressed}
use Rattle.sha256.proofs.rounds.compress.Goals as goal

pub returns : goal.returns
unfolding compressed
returns c = rw (c.added.ensures, c.rounds-s.ensures, c.started.ensures)
