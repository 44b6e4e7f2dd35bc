-- The front's units, and the rest's behind them (`units-unpacked`).
use Rattle.runs.proofs.UnitsRead.{units_unpacked}
use Rattle.runs.proofs.record.unpack_units.Goals as goal

pub returns : goal.returns
returns c =
    let last = c.unpack-2 in
    let first = c.unpack in
    let start = c in
    let a = start.args in
    units_unpacked a.units.now a.octets.now first.new.to last.new.to a.n start.requires.0 start.requires.1
    start.requires.2 first.ensures last.ensures
