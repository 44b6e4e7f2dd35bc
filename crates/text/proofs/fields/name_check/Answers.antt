-- The rule on the field, at the field's start.
use Rattle.text.specs.Order.{field_rows}
use Rattle.zone.specs.Form.{field}
use Rattle.zone.specs.Inner.Places.{places_of}
use Rattle.text.proofs.fields.name_check.Goals as goal

pub returns : goal.returns
unfolding field_rows places_of field
returns c = λ span.
    rw (
      c.unless.ensures,
      c.is_name.ensures,
      c.part.ensures,
      c.name_width.ensures,
      c.places-at.ensures,
    )
