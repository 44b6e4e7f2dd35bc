-- Five bits.
use Rattle.zone.specs.Part as text
use Rattle.cells.proofs.Shifts.{bits_below}
use Rattle.units.specs.Unpacked.{bits_within}
use Rattle.entry.specs.Row.{start}
use Rattle.runs.proofs.record.own_length.Goals as goal

pub returns : goal.returns
unfolding bits_within
returns c = (c.bits.ensures, rw c.bits.ensures (bits_below c.args.s.now (start text.own) 5))
