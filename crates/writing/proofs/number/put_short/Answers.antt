-- Each call puts its part.
use Rattle.writing.specs.Inner.Puts.{put, mark, put_short}
use Rattle.zone.specs.Inner.Places.{places_of}
use Rattle.zone.proofs.Widths.{fixed}
use Rattle.writing.proofs.number.put_short.Goals as goal

pub returns : goal.returns
unfolding put_short put mark places_of
returns c =
    let early = c in
    rw (
      c.put.ensures,
      c.nine_digit-d.ensures,
      early.put_nine.ensures,
      early.places-at.ensures,
      (fixed early.args.r.form).number_width,
    )
