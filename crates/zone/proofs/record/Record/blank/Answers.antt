-- Field by field the blank record.
use mathlib.Core.Path.{refl}
use Rattle.zone.specs.Record.{blank, holding, padded}
use Rattle.zone.proofs.record.Record.blank.Goals as goal

pub returns : goal.returns
unfolding blank holding padded
returns c = refl
