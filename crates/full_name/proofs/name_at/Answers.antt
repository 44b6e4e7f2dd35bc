-- The form's row has the place.
use native.Mathlib.Omega.{arith}
use Rattle.zone.specs.Part.{name}
use Rattle.zone.specs.Inner.Places.{places_of}
use Rattle.zone.proofs.Widths.{within, total_le}
use Rattle.full_name.specs.FullName.{name_at}
use Rattle.full_name.proofs.name_at.Goals as goal

pub overflow_add-result : goal.overflow_add-result
unfolding places_of
overflow_add-result c =
    let start = c in
    rw c.places-start.ensures (omega (arith, within start.args.form name, total_le start.args.form, start.requires))

pub returns : goal.returns
unfolding name_at places_of
returns c = rw c.places-start.ensures
