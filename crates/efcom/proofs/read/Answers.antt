-- From the start of the value, within it.
use Rattle.efcom.specs.EfCom.{read_ef_com}
use Rattle.efcom.proofs.read.Goals as goal

pub returns : goal.returns
unfolding read_ef_com
returns c = rw (← c.part.ensures) c.from_version.ensures
