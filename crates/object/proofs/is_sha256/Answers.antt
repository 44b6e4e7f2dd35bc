-- Either of the two names.
use Rattle.object.specs.Object.{is_sha256, sha256_name}
use Rattle.object.proofs.is_sha256.Goals as goal

pub returns : goal.returns
unfolding is_sha256 sha256_name
returns c = rw (c.alike-2.ensures, c.alike.ensures)
