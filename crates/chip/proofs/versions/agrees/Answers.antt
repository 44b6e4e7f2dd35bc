-- By the object's version.
use Rattle.chip.specs.Versions.{agrees}
use Rattle.chip.proofs.versions.agrees.Goals as goal

pub returns-in-Zero : goal.returns-in-Zero
unfolding agrees
returns-in-Zero c = rw c.in-Zero.is

pub returns-in-One : goal.returns-in-One
unfolding agrees
returns-in-One c = rw (c.in-One.is, c.are_said.ensures)
