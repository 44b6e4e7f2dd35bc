-- The number in three octets.
use Rattle.seal_fields.specs.Day.{day_at}
use Rattle.seal_fields.proofs.day.day_at.Goals as goal

pub returns : goal.returns
unfolding day_at
returns c = rw (c.day_of.ensures, c.number_in.ensures.0, c.part.ensures)
