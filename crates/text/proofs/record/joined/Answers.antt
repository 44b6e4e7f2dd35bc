-- Behind the nine, which have fillers behind them, the further characters.
use Rattle.zone.proofs.Padded.{copied_behind}
use Rattle.text.proofs.record.joined.Goals as goal

pub returns : goal.returns
returns c =
    let a = c.args in
    rw (c.copy_at.ensures, c.padded-room.ensures) (copied_behind 22 a.nine.now a.further.now)
