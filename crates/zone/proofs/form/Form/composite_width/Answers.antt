-- From the row.
use Rattle.zone.specs.Inner.Places.{places_of}
use Rattle.zone.proofs.form.Form.composite_width.Goals as goal

pub returns : goal.returns
unfolding places_of
returns c = rw c.places.ensures
