-- The same test, made by subtraction.
use Rattle.tlv.proofs.Stretches.{has_within, has_without}
use Rattle.tlv.proofs.cut.has_octets.Goals as goal

pub returns-then-v : goal.returns-then-v
returns-then-v c = let a = c.args in
    has_within a.n a.v c.if-v.true

pub returns-else-v : goal.returns-else-v
returns-else-v c = let a = c.args in
    has_without a.n a.v c.if-v.false
