-- A0, or two octets.
use borrow.Author.Tests.{eq-eqb, ne_eqb}
use lib.ListN.{get_or}
use Rattle.details.specs.Tags.{tag_here}
use Rattle.details.proofs.element.tag_here.Goals as goal

pub returns-then-first-eq-TEMPLATE : goal.returns-then-first-eq-TEMPLATE
unfolding tag_here
returns-then-first-eq-TEMPLATE c =
    let a = c.args in
    let k = rw c.octet-first.ensures at c.if-first-eq-TEMPLATE.true in
    rw (eq-eqb (get_or a.s.now a.at 0) 0xA0 k)

pub returns : goal.returns
unfolding tag_here
returns c =
    let a = c.args in
    let k = rw c.octet-first.ensures at c.if-first-eq-TEMPLATE.false in
    rw (c.octet-first.ensures, c.octet.ensures, ne_eqb (get_or a.s.now a.at 0) 0xA0 k)
