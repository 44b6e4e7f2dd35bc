-- One copy of a part.
use Rattle.writing.proofs.number.put_nine.Goals as goal

pub returns : goal.returns
returns c = rw (c.copy_at.ensures, c.part.ensures)
