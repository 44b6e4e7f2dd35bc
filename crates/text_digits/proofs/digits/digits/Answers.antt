-- The checks joined in the order of the form's layout.
use Rattle.refusal.proofs.Outcomes.{and_else}
use Rattle.zone.specs.Inner.Places.{places_of}
use Rattle.text_digits.proofs.Walks.{digits_in_order}
use Rattle.text_digits.proofs.digits.digits.Goals as goal

pub returns : goal.returns
unfolding places_of
returns c =
    let a = c.args in
    let s = a.span in
    rw (
      c.and-2.ensures,
      and_else,
      c.and.ensures,
      and_else,
      c.in_turn.ensures,
      c.and-last.ensures,
      and_else,
      c.composite_digit.ensures s,
      c.personal_digit.ensures s,
      c.dates_digit-dates.ensures s,
      c.further_digit-further.ensures,
      c.number_digit-number.ensures,
      c.places-at.ensures,
    )
    (digits_in_order a.form a.text.now s)
