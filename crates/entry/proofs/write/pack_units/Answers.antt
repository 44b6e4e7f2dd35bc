-- The front's octets, and the rest's behind them (`units-packed`).
use Rattle.entry.proofs.EntryUnits.{units_packed}
use Rattle.entry.proofs.write.pack_units.Goals as goal

pub returns : goal.returns
returns c =
    let last = c.pack_on in
    let first = c.pack in
    let start = c in
    let a = start.args in
    units_packed a.octets.now a.units.now first.new.out last.new.out a.characters start.requires.0
    start.requires.1 start.requires.2 first.ensures last.ensures
