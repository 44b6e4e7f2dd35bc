-- Three octets, each below 256.
use borrow.Author.Rules.{rules}
use borrow.Author.Tests.{eq-eqb, ne_eqb}
use Rattle.seal_fields.specs.Day.{number_in}
use Rattle.seal_fields.proofs.day.number_in.Goals as goal

pub returns-then-s-eq3 : goal.returns-then-s-eq3
unfolding number_in
returns-then-s-eq3 c = (
  simp (
    eq-eqb _ _ c.if-s-eq3.true,
    ← c.octet-c.ensures,
    ← c.octet-b.ensures,
    ← c.octet-a.ensures,
  ),
  search rules,
)

pub returns-else-s-eq3 : goal.returns-else-s-eq3
unfolding number_in
returns-else-s-eq3 c = (simp (ne_eqb _ _ c.if-s-eq3.false), search rules)
