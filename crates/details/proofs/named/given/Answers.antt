-- Of the template the whole.
use borrow.Author.Tests.{eq-eqb, ne_eqb}
use Rattle.details.specs.Tags.{tag_here}
use Rattle.details.specs.Details.{given}
use Rattle.details.specs.Inner.Places.{detail_here}
use Rattle.details.proofs.Standing.{no_template_past}
use Rattle.details.proofs.named.given.Goals as goal

pub returns-then-s-at : goal.returns-then-s-at
unfolding given detail_here
returns-then-s-at c =
    let a = c.args in
    rw (c.held_at-held.ensures, no_template_past a.s.now a.at c.if-s-at.true)

pub returns-then-tag_here-eq-TEMPLATE : goal.returns-then-tag_here-eq-TEMPLATE
unfolding given detail_here
returns-then-tag_here-eq-TEMPLATE c =
    let a = c.args in
    let k = rw c.tag_here.ensures at c.if-tag_here-eq-TEMPLATE.true in
    rw (c.held_at-held.ensures, eq-eqb (tag_here a.s.now a.at) 0xA0 k)

pub returns-else-tag_here-eq-TEMPLATE : goal.returns-else-tag_here-eq-TEMPLATE
unfolding given detail_here
returns-else-tag_here-eq-TEMPLATE c =
    let a = c.args in
    let k = rw c.tag_here.ensures at c.if-tag_here-eq-TEMPLATE.false in
    rw (c.held_at-held.ensures, ne_eqb (tag_here a.s.now a.at) 0xA0 k)
