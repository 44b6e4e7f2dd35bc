-- The two tests.
use Prim.Native.Nat.{◌+◌}
use native.Mathlib.Omega.{arith}
use Rattle.cells.specs.Cells.{is_whole_row}
use Rattle.units.proofs.Reading.{bits_room}
use Rattle.runs.specs.Run.{is_whole}
use Rattle.runs.specs.Inner.Units.{end_by, spare_by}
use Rattle.runs.proofs.RecordRead.{row_ends}
use Rattle.runs.proofs.record.is_whole.Goals as goal

pub returns : goal.returns
unfolding is_whole is_whole_row
returns c =
    let start = c in
    let s = start.args.s.now in
    let n = start.args.m + start.args.n in
    rw (
      c.bits.ensures,
      c.size-2.ensures.0,
      c.size.ensures.0,
      bits_room s (end_by n) (spare_by n) (omega arith),
      row_ends s start.args.m start.args.n start.requires,
    )
