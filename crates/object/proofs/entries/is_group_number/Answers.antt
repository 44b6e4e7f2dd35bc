-- The definition's tests.
use Rattle.object.specs.Object.{is_group_number}
use Rattle.object.proofs.entries.is_group_number.Goals as goal

pub returns : goal.returns
unfolding is_group_number
returns c = rw (c.has_octets.ensures, c.octet-number.ensures)
