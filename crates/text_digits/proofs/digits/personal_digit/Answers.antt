-- Where the form has the field: nothing more where it is left out, else its digit.
use mathlib.Core.Path.{ap}
use borrow.Author.Tests.{lt-ltb, le-ltb}
use Rattle.zone.specs.Part.{personal}
use Rattle.zone.specs.Form.{field}
use Rattle.zone.specs.Inner.Places.{places_of}
use Rattle.digit.specs.Inner.Covered.{sums_of}
use Rattle.digit.specs.declared.composite.Sums.{Sums}
use Rattle.text_digits.specs.Digits.{is_left_out, personal_digit, digit_rows}
use Rattle.text_digits.specs.Inner.Checks.{if_has}
use Rattle.text_digits.proofs.digits.personal_digit.Goals as goal

pub returns-then-is_left_out : goal.returns-then-is_left_out
unfolding if_has digit_rows personal_digit is_left_out places_of field
returns-then-is_left_out c =
    λ span.
    let places = c.places-at.ensures in
    let wide = c.personal_width-wide.ensures in
    let has = rw wide at (lt-ltb _ _ c.if-wide-gt0.true) in
    let out = rw (
      c.is_left_out.ensures,
      c.octet.ensures,
      c.part-number.ensures,
      wide,
      places,
    ) at c.if-is_left_out.true in
    rw (has, out)

pub returns-else-is_left_out : goal.returns-else-is_left_out
unfolding if_has digit_rows personal_digit is_left_out places_of field sums_of
returns-else-is_left_out c =
    λ span.
    let tested = c in
    let places = tested.places-at.ensures in
    let wide = tested.personal_width-wide.ensures in
    let has = rw wide at (lt-ltb _ _ tested.if-wide-gt0.true) in
    let in_text_lem = rw (
      tested.is_left_out.ensures,
      tested.octet.ensures,
      tested.part-number.ensures,
      wide,
      places,
    ) at tested.if-is_left_out.false in
    let start = tested in
    let gone = ap (λ (s : Sums). s.personal) start.requires in
    rw (c.field_digit.ensures (field start.args.form personal start.args.text.now) gone, places, has, in_text_lem)

pub returns-else-wide-gt0 : goal.returns-else-wide-gt0
unfolding if_has
returns-else-wide-gt0 c = λ span. rw (rw c.personal_width-wide.ensures at (le-ltb _ _ c.if-wide-gt0.false))
