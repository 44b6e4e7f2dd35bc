-- Two octets.
use Rattle.details.proofs.list.tag_of.Goals as goal

pub returns : goal.returns
returns c = rw (c.octet.ensures, c.octet-2.ensures)
