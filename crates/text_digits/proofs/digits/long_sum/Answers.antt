-- The sum over the nine, and over the further characters behind them.
use lib.ListN.{take}
use Rattle.zone.specs.Part.{number, optional}
use Rattle.zone.specs.Rooms.{nine}
use Rattle.zone.specs.Form.{field}
use Rattle.zone.specs.Inner.Places.{places_of}
use Rattle.digit.specs.Check.{check_of, digit_of}
use Rattle.digit.specs.Inner.Thirds.{as_digit}
use Rattle.digit.specs.Inner.Covered.{sums_of}
use Rattle.digit.proofs.ByThirds.{weighed_sum}
use Rattle.digit.proofs.CoveredSum.{long_sum}
use Rattle.text_digits.specs.Number.{checked_by}
use Rattle.text_digits.proofs.digits.long_sum.Goals as goal

pub returns : goal.returns
unfolding checked_by places_of sums_of field as_digit digit_of check_of
returns c =
    let start = c in
    let f = start.args.form in
    let t = start.args.text.now in
    let n = start.args.further in
    rw (
      c.as_digit.ensures,
      c.weighed-2.ensures.0,
      c.of.ensures,
      c.weighed.ensures.0,
      c.part-optional.ensures,
      c.optional_width.ensures,
      c.places-at.ensures,
      start.requires,
      weighed_sum 0 (field f number t),
      weighed_sum nine (take n (field f optional t)),
      long_sum f t n,
    )
