-- One copy of a part.
use Rattle.writing.proofs.fields.put_name.Goals as goal

pub returns : goal.returns
returns c = rw (c.copy_at.ensures, c.part.ensures)
