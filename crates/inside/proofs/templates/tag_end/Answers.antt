-- The tag's octets, by its first.
use native.Mathlib.Omega.{arith}
use Rattle.inside.proofs.Tags.{width_wide, width_one}
use Rattle.inside.proofs.templates.tag_end.Goals as goal

pub returns-then-octet-eq31 : goal.returns-then-octet-eq31
returns-then-octet-eq31 c =
    let a = c.args in
    let wide = rw c.octet.ensures at c.if-octet-eq31.true in
    (rw (width_wide a.s.now a.at wide), omega arith)

pub returns-else-octet-eq31 : goal.returns-else-octet-eq31
returns-else-octet-eq31 c =
    let a = c.args in
    let one = rw c.octet.ensures at c.if-octet-eq31.false in
    let small = c.type_inv.s a.at in
    (rw (width_one a.s.now a.at one (omega (arith, small))), omega arith)
