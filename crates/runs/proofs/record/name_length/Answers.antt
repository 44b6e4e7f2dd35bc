-- Six bits behind the data.
use borrow.Author.Rules.{rules}
use native.Mathlib.Omega.{arith}
use Rattle.cells.proofs.Shifts.{bits_below}
use Rattle.units.proofs.Reading.{bits_room}
use Rattle.runs.specs.Inner.Units.{name_at}
use Rattle.runs.proofs.record.name_length.Goals as goal

pub returns : goal.returns
returns c =
    let a = c.args in
    let s = a.s.now in
    let at = name_at a.m in
    rw (c.bits.ensures, bits_room s at 6 (omega arith)) (search rules, bits_below s at 6)
