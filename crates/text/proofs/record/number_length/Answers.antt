-- The trimmed length of the nine, or the lengths of both parts.
use Rattle.zone.proofs.Widths.{fixed}
use mathlib.Core.Path.{sym}
use lib.ListN.{take, drop, length-append}
use Rattle.zone.specs.Part.{number, optional}
use Rattle.zone.proofs.Padded.{trimmed_length_lem}
use Rattle.zone.specs.Form.{field, start}
use Rattle.zone.specs.Inner.Places.{places_of}
use Rattle.text_digits.specs.Number.{number_by}
use Rattle.text.proofs.record.number_length.Goals as goal

pub returns-in-Short : goal.returns-in-Short
unfolding places_of field number_by
returns-in-Short c =
    rw (
      c.trimmed_length.ensures,
      c.in-Short.is,
      c.part-nine.ensures,
      c.places-at.ensures,
      (fixed c.args.form).number_width,
      trimmed_length_lem,
    )

pub returns-in-Long : goal.returns-in-Long
unfolding places_of field number_by
returns-in-Long c =
    let a = c.args in
    let t = a.text.now in
    rw (
      c.part-more.ensures,
      c.part-optional.ensures,
      c.optional_width.ensures,
      c.part-nine.ensures,
      c.places-at.ensures,
      c.in-Long.is,
      (fixed a.form).number_width,
    )
    (sym (length-append (take 9 (drop (start a.form number) t))
    (take c.in-Long.further (field a.form optional t))))

pub returns-in-Bad : goal.returns-in-Bad
unfolding places_of field number_by
returns-in-Bad c =
    rw (
      c.trimmed_length-in-Bad.ensures,
      c.in-Bad.is,
      c.part-nine.ensures,
      c.places-at.ensures,
      (fixed c.args.form).number_width,
      trimmed_length_lem,
    )
