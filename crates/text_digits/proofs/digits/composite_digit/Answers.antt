-- Where the form has the digit: one call on what it covers.
use borrow.Author.Tests.{lt-ltb, le-ltb}
use Rattle.zone.specs.Inner.Places.{places_of}
use Rattle.digit.specs.Inner.Covered.{composite_sum}
use Rattle.digit.proofs.CoveredSum.{composite_digit}
use Rattle.digit.proofs.Written.{as_digit_digit}
use Rattle.text_digits.specs.Digits.{digit_rows}
use Rattle.text_digits.specs.Inner.Checks.{if_has}
use Rattle.text_digits.proofs.Written.{written_digit}
use Rattle.text_digits.proofs.digits.composite_digit.Goals as goal

pub returns-then-composite_width-gt0 : goal.returns-then-composite_width-gt0
unfolding if_has digit_rows places_of
returns-then-composite_width-gt0 c =
    λ span.
    let start = c in
    let f = start.args.form in
    let t = start.args.text.now in
    let has = rw c.composite_width.ensures at (lt-ltb _ _ c.if-composite_width-gt0.true) in
    rw (
      c.judged_digit.ensures,
      c.digit_by.ensures,
      start.requires,
      composite_digit f t has,
      c.places-at.ensures,
      has,
      written_digit,
    )

pub judged_digit-requires : goal.judged_digit-requires
unfolding if_has
judged_digit-requires c = rw c.digit_by.ensures (as_digit_digit (composite_sum c.args.sums))

pub returns-else-composite_width-gt0 : goal.returns-else-composite_width-gt0
unfolding if_has
returns-else-composite_width-gt0 c = λ span. rw (rw c.composite_width.ensures at (le-ltb _ _ c.if-composite_width-gt0.false))
