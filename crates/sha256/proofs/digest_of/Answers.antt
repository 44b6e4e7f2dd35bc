-- The definition, by the calls' promises.
use Rattle.sha256.specs.Hash.{sha256}
use Rattle.sha256.proofs.digest_of.Goals as goal

pub returns : goal.returns
unfolding sha256
returns c = rw (c.joined.ensures, c.hash-hash.ensures)
