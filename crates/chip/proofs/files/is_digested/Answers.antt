-- Two calls.
use Rattle.chip.proofs.files.is_digested.Goals as goal

pub returns : goal.returns
returns c = rw (c.alike.ensures, c.digest_of-own.ensures)
