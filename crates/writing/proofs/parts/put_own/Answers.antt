-- One call puts the data where they stand.
use native.Mathlib.Omega.{arith}
use Rattle.zone.specs.Record.{held_rows}
use Rattle.zone.specs.Form.{own_part}
use Rattle.zone.specs.Inner.Places.{places_of}
use Rattle.zone.proofs.Own.{before_most}
use Rattle.zone.proofs.Widths.{within, total_le}
use Rattle.writing.specs.Inner.Puts.{put_own}
use Rattle.writing.proofs.parts.put_own.Goals as goal

pub overflow_add-at : goal.overflow_add-at
unfolding places_of
overflow_add-at c =
    let start = c in
    let r = start.args.r in
    let f = r.form in
    rw (c.before_own-before.ensures, c.places-at.ensures)
    (omega (arith, within f (own_part f), total_le f, before_most f r.number_len, start.requires))

pub returns : goal.returns
unfolding put_own places_of held_rows
returns c =
    let put = c in
    rw (
      put.put_own_characters.ensures,
      put.before_own-before.ensures,
      put.places-at.ensures,
    )
