-- Two octets.
use Rattle.field.proofs.date.pair_at.Goals as goal

pub returns : goal.returns
returns c = rw (c.pair_of.ensures, c.octet-2.ensures, c.octet.ensures)
