-- Each call puts its part.
use Rattle.writing.specs.Inner.Puts.{put, mark, put_dates}
use Rattle.zone.specs.Inner.Places.{places_of}
use Rattle.zone.proofs.Widths.{fixed}
use Rattle.writing.proofs.parts.put_dates.Goals as goal

pub returns : goal.returns
unfolding put_dates put mark places_of
returns c =
    let early = c in
    let widths = fixed early.args.r.form in
    rw (
      c.put_date-2.ensures,
      early.put_date.ensures,
      early.places-at.ensures,
      widths.expiry_width,
      widths.birth_width,
    )
