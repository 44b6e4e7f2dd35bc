-- The definition makes the code's tests.
use borrow.Author.Tests.{eq-eqb, ne_eqb}
use Rattle.nightly.specs.Inner.Seen.{grown}
use Rattle.nightly.proofs.walk.grown.Goals as goal

pub returns-then-own-eq0 : goal.returns-then-own-eq0
unfolding grown
returns-then-own-eq0 c = simp (eq-eqb _ _ c.if-own-eq0.true, eq-eqb _ _ c.if-place-house.true)

pub returns-else-own-eq0 : goal.returns-else-own-eq0
unfolding grown
returns-else-own-eq0 c = simp (ne_eqb _ _ c.if-own-eq0.false, eq-eqb _ _ c.if-place-house.true)

pub returns-else-place-house : goal.returns-else-place-house
unfolding grown
returns-else-place-house c = simp (ne_eqb _ _ c.if-place-house.false)
