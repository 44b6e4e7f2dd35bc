-- Each field is gone over, by what was worked out before.
use native.Mathlib.Omega.{arith}
use Rattle.zone.specs.Part.{number, birth, expiry, personal}
use Rattle.zone.specs.Rooms.{date_room, nine}
use Rattle.zone.specs.Form.{start, width, field}
use Rattle.zone.specs.Inner.Places.{places_of}
use Rattle.zone.proofs.Widths.{fixed, within, total_le}
use Rattle.digit.specs.Inner.Covered.{sums_of}
use Rattle.digit.proofs.ByThirds.{same_thirds}
use Rattle.digit.proofs.composite.Sums.by.Goals as goal

pub returns : goal.returns
unfolding sums_of field places_of
returns c =
    λ t e.
    let early = c in
    let a = early.args in
    let f = a.form in
    let s = a.counts.now in
    let wide = fixed f in
    rw (
      c.others-others.ensures t e,
      c.counted-personal.ensures,
      early.counted-expiry.ensures,
      early.counted-birth.ensures,
      early.counted-number.ensures,
      early.places-at.ensures,
      same_thirds t s e nine (start f number) (omega (arith, within f number, total_le f, wide.number_width)),
      same_thirds t s e date_room (start f birth) (omega (arith, within f birth, total_le f, wide.birth_width)),
      same_thirds t s e date_room (start f expiry) (omega (arith, within f expiry, total_le f, wide.expiry_width)),
      same_thirds t s e (width f personal) (start f personal) (omega (arith, within f personal, total_le f)),
      wide.number_width,
      wide.birth_width,
      wide.expiry_width,
    )

pub overflow_cast-at : goal.overflow_cast-at
unfolding places_of
overflow_cast-at c =
    let f = c.args.form in
    rw c.places-at.ensures (omega (arith, within f personal, total_le f))
