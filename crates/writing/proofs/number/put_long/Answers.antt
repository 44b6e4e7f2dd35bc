-- Each call puts its part.
use Rattle.writing.specs.Text.{number_in, further_in}
use Rattle.writing.specs.Inner.Puts.{put, mark, put_long}
use Rattle.zone.specs.Inner.Places.{places_of}
use Rattle.zone.proofs.Widths.{fixed, within, total_le}
use native.Mathlib.Omega.{arith}
use Rattle.zone.specs.Part.{optional}
use Rattle.writing.proofs.number.put_long.Goals as goal

pub put_further-requires : goal.put_further-requires
unfolding places_of
put_further-requires c =
    let early = c in
    let f = early.args.r.form in
    rw early.places-at.ensures (omega (arith, within f optional, total_le f))

pub returns : goal.returns
unfolding put_long put mark number_in further_in places_of
returns c =
    let early = c in
    rw (
      c.put_further.ensures,
      c.optional_width.ensures,
      c.put.ensures,
      early.put_nine.ensures,
      early.places-at.ensures,
      (fixed early.args.r.form).number_width,
    )
