-- The rule on each field, at the field's start.
use Rattle.refusal.proofs.Outcomes.{and_else}
use Rattle.zone.specs.Form.{field}
use Rattle.zone.specs.Inner.Places.{places_of}
use Rattle.zone.proofs.Widths.{fixed}
use Rattle.text.specs.Order.{field_rows}
use Rattle.text.proofs.fields.opening_check.Goals as goal

pub returns : goal.returns
unfolding field_rows places_of field
returns c = λ span.
    let tested = c in
    let wide = fixed tested.args.form in
    rw (
      c.and.ensures,
      and_else,
      c.unless-2.ensures,
      c.unless.ensures,
      tested.is_state-state.ensures,
      tested.part-2.ensures,
      tested.is_code-code.ensures,
      tested.part.ensures,
      tested.places-at.ensures,
      wide.code_width,
      wide.state_width,
    )
