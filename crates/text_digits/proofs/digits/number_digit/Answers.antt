-- The cases of `number_digit`.
use mathlib.Core.Path.{ap}
use Rattle.zone.specs.Part.{number}
use Rattle.zone.specs.Form.{field}
use Rattle.zone.specs.Inner.Places.{places_of}
use Rattle.digit.specs.Inner.Covered.{sums_of}
use Rattle.digit.specs.declared.composite.Sums.{Sums}
use Rattle.text_digits.specs.Number.{checked_by}
use Rattle.text_digits.specs.Digits.{number_digit, digit_rows}
use Rattle.text_digits.proofs.digits.number_digit.Goals as goal

pub returns-in-Short : goal.returns-in-Short
unfolding digit_rows number_digit checked_by places_of sums_of
returns-in-Short c =
    let start = c in
    let gone = ap (λ (s : Sums). s.number) start.requires in
    rw (
      c.field_digit.ensures (field start.args.form number start.args.text.now) gone,
      c.in-Short.is,
      c.places-at.ensures,
    )

pub returns-in-Long : goal.returns-in-Long
unfolding digit_rows number_digit
returns-in-Long c = rw c.in-Long.is

pub returns-in-Bad : goal.returns-in-Bad
unfolding digit_rows number_digit
returns-in-Bad c = rw c.in-Bad.is
