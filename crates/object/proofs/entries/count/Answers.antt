-- By whether the number is new.
use borrow.Author.Tests.{ne_eqb, eq-eqb}
use Rattle.object.specs.Inner.Seen.{is_new, counted}
use Rattle.object.proofs.entries.count.Goals as goal

pub returns-then-seen-entry-eq0 : goal.returns-then-seen-entry-eq0
unfolding counted is_new
returns-then-seen-entry-eq0 c = rw (eq-eqb _ _ c.if-seen-entry-eq0.true)

pub returns-else-seen-entry-eq0 : goal.returns-else-seen-entry-eq0
unfolding counted is_new
returns-else-seen-entry-eq0 c = rw (ne_eqb _ _ c.if-seen-entry-eq0.false, c.or-seen.ensures)
