-- Character by character.
use mathlib.Core.Path.{sym}
use lib.ListN.{take, drop}
use Rattle.zone.proofs.Filled.{three_filled}
use Rattle.zone.proofs.taken.state_at.Goals as goal

pub returns : goal.returns
returns c =
    let a = c.args in
    rw (
      c.or_filler-3.ensures,
      c.or_filler-2.ensures,
      c.or_filler.ensures,
      c.part-part.ensures,
    )
    (sym (three_filled (take 3 (drop a.at a.s.now))))
