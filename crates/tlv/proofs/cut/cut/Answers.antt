-- As many octets as there are between the two places, or none.
use Rattle.tlv.specs.Cut.{cut}
use Rattle.tlv.proofs.Stretches.{cut_without}
use mathlib.Core.Path.{◌∙◌}
use Rattle.tlv.proofs.cut.cut.Goals as goal

pub returns-then-v : goal.returns-then-v
unfolding cut
returns-then-v c = c.part.ensures

pub returns-else-v : goal.returns-else-v
unfolding cut
returns-else-v c = let a = c.args in
    c.part-else-v.ensures ∙ cut_without a.s.now a.v c.if-v.false
