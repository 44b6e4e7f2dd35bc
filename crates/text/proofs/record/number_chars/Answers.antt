-- The nine with the further characters behind them, if any.
use Rattle.zone.proofs.Widths.{fixed}
use Rattle.zone.specs.Form.{field}
use Rattle.zone.specs.Inner.Places.{places_of}
use Rattle.text_digits.proofs.Numbers.{number_room_lem}
use Rattle.text.proofs.record.number_chars.Goals as goal

pub returns : goal.returns
unfolding places_of field
returns c =
    let a = c.args in
    rw (
      c.joined.ensures,
      c.part.ensures,
      c.further_in.ensures,
      c.part-optional.ensures,
      c.optional_width.ensures,
      c.part-nine.ensures,
      c.places-at.ensures,
    )
    (rw (fixed a.form).number_width at (number_room_lem a.form a.text.now a.span))
