-- From the start of the value, within it.
use Rattle.object.specs.Object.{read_object}
use Rattle.object.proofs.read.Goals as goal

pub returns : goal.returns
unfolding read_object
returns c = rw (← c.part.ensures) c.from_version.ensures
