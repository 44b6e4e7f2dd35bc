-- One test.
use Rattle.tlv.specs.Cut.{end_check}
use Rattle.tlv.proofs.cut.end_check.Goals as goal

pub returns : goal.returns
unfolding end_check
returns c = c.unless.ensures
