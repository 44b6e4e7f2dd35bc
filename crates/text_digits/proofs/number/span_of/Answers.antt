-- The tests of `is_long`, and the filler that is found.
use Rattle.zone.specs.Alphabet.{is_filler}
use Rattle.zone.specs.Form.{field}
use Rattle.zone.specs.Inner.Places.{places_of}
use Rattle.text_digits.specs.Number.{span_of, is_long}
use Rattle.text_digits.proofs.number.span_of.Goals as goal

pub returns-then-longest_number-octet : goal.returns-then-longest_number-octet
unfolding span_of is_long places_of field is_filler
returns-then-longest_number-octet c =
    let long = rw (
      c.octet.ensures,
      c.longest_number.ensures,
      c.places-at.ensures,
    ) at
    c.if-longest_number-octet.true in
    rw (
      c.cut_at.ensures,
      c.first_filler.ensures,
      c.part-optional.ensures,
      c.optional_width.ensures,
      c.places-at.ensures,
      long,
    )

pub returns-else-longest_number-octet : goal.returns-else-longest_number-octet
unfolding span_of is_long places_of is_filler
returns-else-longest_number-octet c =
    let short = rw (
      c.octet.ensures,
      c.longest_number.ensures,
      c.places-at.ensures,
    ) at c.if-longest_number-octet.false in
    rw short
