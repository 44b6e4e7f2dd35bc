-- The test, refused at the object's start.
use Rattle.chip.specs.Versions.{versions_check}
use Rattle.chip.proofs.versions.versions_check.Goals as goal

pub returns : goal.returns
unfolding versions_check
returns c = rw (c.unless.ensures, c.agrees.ensures)
