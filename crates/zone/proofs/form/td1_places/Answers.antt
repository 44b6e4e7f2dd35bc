-- The starts that the layout's widths add up to, and the widths.
use mathlib.Core.Path.{refl}
use Rattle.zone.specs.Form.{row, start, start_in, width, width_in, piece_of, pieces}
use Rattle.zone.specs.Inner.Places.{before, places_of}
use Rattle.zone.proofs.form.td1_places.Goals as goal

pub returns : goal.returns
unfolding places_of before row start start_in width width_in piece_of pieces
returns c = refl
