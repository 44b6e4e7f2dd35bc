-- Each call puts its part.
use Rattle.writing.specs.Inner.Puts.{put, put_opening}
use Rattle.zone.specs.Inner.Places.{places_of}
use Rattle.zone.proofs.Widths.{fixed}
use Rattle.writing.proofs.parts.put_opening.Goals as goal

pub returns : goal.returns
unfolding put_opening put places_of
returns c =
    let early = c in
    let widths = fixed early.args.r.form in
    rw (
      c.put_state.ensures,
      early.put_code.ensures,
      early.places-at.ensures,
      widths.state_width,
      widths.code_width,
    )
