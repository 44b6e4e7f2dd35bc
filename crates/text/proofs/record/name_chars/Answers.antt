-- Before fillers trailing fillers make no difference.
use mathlib.Core.Path.{sym}
use Rattle.zone.specs.Part.{name}
use Rattle.zone.proofs.Padded.{padded_trimmed}
use Rattle.zone.specs.Form.{field}
use Rattle.zone.specs.Inner.Places.{places_of}
use Rattle.text.proofs.record.name_chars.Goals as goal

pub returns : goal.returns
unfolding places_of field
returns c =
    let a = c.args in
    let s = field a.form name a.text.now in
    rw (
      c.padded.ensures,
      c.part.ensures,
      c.name_width.ensures,
      c.places-at.ensures,
    )
    (sym (padded_trimmed 39 s))
