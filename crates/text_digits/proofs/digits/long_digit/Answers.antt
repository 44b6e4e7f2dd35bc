-- The character at the place against the digit worked out.
use mathlib.Core.Path.{ap}
use native.Mathlib.Omega.{arith}
use Rattle.zone.specs.Part.{optional}
use Rattle.zone.specs.Inner.Places.{places_of}
use Rattle.zone.specs.declared.form.Places.{Places}
use Rattle.zone.proofs.Widths.{within, total_le}
use Rattle.digit.proofs.Written.{digit_digit}
use Rattle.text_digits.specs.Digits.{further_digit, digit_rows}
use Rattle.text_digits.proofs.Written.{written_digit}
use Rattle.text_digits.proofs.digits.long_digit.Goals as goal

pub overflow_add-at : goal.overflow_add-at
unfolding places_of
overflow_add-at c =
    let form = c.args.form in
    omega (arith, ap (λ (p : Places). p.optional) c.places-at.ensures, within form optional, total_le form)

pub judged_digit-requires : goal.judged_digit-requires
unfolding digit_rows further_digit places_of
judged_digit-requires c = rw c.long_sum.ensures (digit_digit _)

pub returns : goal.returns
unfolding digit_rows further_digit places_of
returns c = rw (
  c.judged_digit.ensures,
  c.long_sum.ensures,
  c.places-at.ensures,
  written_digit,
)
