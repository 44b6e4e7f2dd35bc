-- The first character of a part of one.
use Rattle.zone.proofs.taken.sex_at.Goals as goal

pub returns : goal.returns
returns c = rw (c.or_filler.ensures, c.part.ensures)
