-- All tests.
use Rattle.object.specs.Object.{is_version}
use Rattle.object.proofs.is_version.Goals as goal

pub returns : goal.returns
unfolding is_version
returns c = rw (c.has_octets.ensures, c.octet-number.ensures)
