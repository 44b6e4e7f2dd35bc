-- Before fillers trailing fillers make no difference.
use mathlib.Core.Path.{sym}
use lib.Seq.{take_all}
use Rattle.zone.proofs.Padded.{padded_trimmed}
use Rattle.zone.specs.Form.{field}
use Rattle.zone.specs.Inner.Places.{places_of}
use Rattle.text.specs.Read.{own_in}
use Rattle.text.proofs.Ends.{own_within}
use Rattle.text.proofs.record.own_chars.Goals as goal

pub returns : goal.returns
unfolding places_of field own_in
returns c =
    let a = c.args in
    let s = own_in a.form a.text.now a.n in
    rw (
      c.padded.ensures,
      c.part.ensures,
      c.before_own.ensures,
      c.part-field.ensures,
      c.places-at.ensures,
      take_all 16 s (own_within a.form a.text.now a.n),
    )
    (sym (padded_trimmed 16 s))
