-- The rule on each field, at the field's start.
use Rattle.refusal.proofs.Outcomes.{and_else}
use Rattle.zone.specs.Form.{field}
use Rattle.zone.specs.Inner.Places.{places_of}
use Rattle.zone.proofs.Widths.{fixed}
use Rattle.text.specs.Order.{field_rows}
use Rattle.text.proofs.fields.person_check.Goals as goal

pub returns : goal.returns
unfolding field_rows places_of field
returns c = λ span.
    let tested = c in
    let first = tested in
    let wide = fixed first.args.form in
    rw (
      c.and.ensures,
      and_else,
      c.unless-3.ensures,
      c.and-last.ensures,
      and_else,
      c.unless-2.ensures,
      c.unless.ensures,
      tested.is_expiry-expiry.ensures,
      tested.part-2.ensures,
      tested.is_sex-sex.ensures,
      tested.octet.ensures,
      first.is_birth-birth.ensures,
      first.part.ensures,
      first.places-at.ensures,
      wide.birth_width,
      wide.expiry_width,
    )
