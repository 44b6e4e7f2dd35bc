-- The cases of `further_digit`, where the form has room.
use borrow.Author.Tests.{lt-ltb, le-ltb}
use Rattle.text_digits.specs.Digits.{further_digit, digit_rows}
use Rattle.text_digits.specs.Inner.Checks.{if_has}
use Rattle.text_digits.proofs.digits.further_digit.Goals as goal

pub returns-in-Short : goal.returns-in-Short
unfolding if_has digit_rows further_digit
returns-in-Short c =
    rw (
      rw c.optional_width.ensures at (lt-ltb _ _ c.if-optional_width-gt0.true),
      c.in-Short.is,
    )

pub returns-in-Long : goal.returns-in-Long
unfolding if_has
returns-in-Long c =
    rw (
      c.long_digit.ensures,
      rw c.optional_width.ensures at
          (lt-ltb _ _ c.if-optional_width-gt0.true),
      c.in-Long.is,
    )

pub returns-in-Bad : goal.returns-in-Bad
unfolding if_has digit_rows further_digit
returns-in-Bad c =
    rw (
      rw c.optional_width.ensures at (lt-ltb _ _ c.if-optional_width-gt0.true),
      c.in-Bad.is,
    )

pub returns-else-optional_width-gt0 : goal.returns-else-optional_width-gt0
unfolding if_has
returns-else-optional_width-gt0 c = rw (rw c.optional_width.ensures at (le-ltb _ _ c.if-optional_width-gt0.false))
