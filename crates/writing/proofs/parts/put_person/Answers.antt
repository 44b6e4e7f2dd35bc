-- Each call puts its part.
use Rattle.writing.specs.Inner.Puts.{put, mark, put_person}
use Rattle.zone.specs.Inner.Places.{places_of}
use Rattle.zone.proofs.Widths.{fixed}
use Rattle.writing.proofs.parts.put_person.Goals as goal

pub returns : goal.returns
unfolding put_person put mark places_of
returns c =
    let early = c in
    rw (
      c.put_name.ensures,
      c.name_width.ensures,
      c.put.ensures,
      early.put_state.ensures,
      early.places-at.ensures,
      (fixed early.args.r.form).nationality_width,
    )
