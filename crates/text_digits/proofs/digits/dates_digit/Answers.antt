-- The two digits in their order.
use Rattle.refusal.proofs.Outcomes.{and_else}
use mathlib.Core.Path.{ap}
use Rattle.zone.specs.Part.{birth, expiry}
use Rattle.zone.specs.Form.{field}
use Rattle.zone.specs.Inner.Places.{places_of}
use Rattle.digit.specs.Inner.Covered.{sums_of}
use Rattle.digit.specs.declared.composite.Sums.{Sums}
use Rattle.text_digits.specs.Digits.{digit_rows}
use Rattle.text_digits.proofs.digits.dates_digit.Goals as goal

pub returns : goal.returns
unfolding digit_rows places_of sums_of
returns c =
    λ span.
    let start = c in
    let f = start.args.form in
    let t = start.args.text.now in
    rw (
      c.and.ensures,
      and_else,
      c.field_digit-2.ensures (field f expiry t) (ap (λ (s : Sums). s.expiry) start.requires),
      c.field_digit.ensures (field f birth t) (ap (λ (s : Sums). s.birth) start.requires),
      c.places-at.ensures,
    )
