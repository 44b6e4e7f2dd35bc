-- A copy over fillers.
use Rattle.zone.proofs.Padded.{copied_padded}
use Rattle.zone.proofs.taken.padded.Goals as goal

pub returns : goal.returns
returns g c = rw c.copy.ensures (copied_padded g.row.N c.args.s.now)
