-- What is left of the width, 0 where nothing is.
use native.Mathlib.Omega.{arith}
use Rattle.zone.specs.Form.{own_place}
use Rattle.zone.specs.Inner.Places.{places_of}
use Rattle.zone.proofs.form.Form.own_place.Goals as goal

pub returns-then-before-wide : goal.returns-then-before-wide
unfolding own_place places_of
returns-then-before-wide c = rw (c.before_own-before.ensures, c.places-wide.ensures)

pub returns-else-before-wide : goal.returns-else-before-wide
unfolding own_place places_of
returns-else-before-wide c =
    let none = rw (c.before_own-before.ensures, c.places-wide.ensures) at c.if-before-wide.false in
    omega (arith, none)
