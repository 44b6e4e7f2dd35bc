-- The rule on the field, at the field's start.
use Rattle.zone.proofs.Widths.{fixed}
use Rattle.text.specs.Order.{field_rows}
use Rattle.zone.specs.Form.{field}
use Rattle.zone.specs.Inner.Places.{places_of}
use Rattle.text.proofs.fields.nationality_check.Goals as goal

pub returns : goal.returns
unfolding field_rows places_of field
returns c = λ span.
    rw (
      c.unless.ensures,
      c.is_state.ensures,
      c.part.ensures,
      c.places-at.ensures,
      (fixed c.args.form).nationality_width,
    )
