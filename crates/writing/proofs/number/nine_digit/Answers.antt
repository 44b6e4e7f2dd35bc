-- One call on a part.
use Rattle.writing.proofs.number.nine_digit.Goals as goal

pub returns : goal.returns
returns c = rw (c.of.ensures, c.part.ensures)
