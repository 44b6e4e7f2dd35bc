-- Field by field the blank header.
use mathlib.Core.Path.{refl}
use Rattle.seal_header.specs.Header.{blank_header}
use Rattle.seal_header.proofs.header.Header.blank.Goals as goal

pub returns : goal.returns
unfolding blank_header
returns c = refl
