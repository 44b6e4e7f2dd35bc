-- The tests are those of `is_version`.
use mathlib.Core.Path.{refl}
use Rattle.seal_header.specs.Header.{is_version}
use Rattle.seal_header.proofs.header.is_version.Goals as goal

pub returns : goal.returns
unfolding is_version
returns c = refl
