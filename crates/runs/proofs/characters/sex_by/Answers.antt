-- The number matched on is a code, or none.
use borrow.Author.Tests.{ne_eqb}
use Rattle.entry.specs.Codes.{sex_by}
use Rattle.runs.proofs.characters.sex_by.Goals as goal

pub returns-in-0 : goal.returns-in-0
unfolding sex_by
returns-in-0 c = rw c.in-0.is

pub returns-in-1 : goal.returns-in-1
unfolding sex_by
returns-in-1 c = rw c.in-1.is

pub returns-in-2 : goal.returns-in-2
unfolding sex_by
returns-in-2 c = rw c.in-2.is

pub returns-in_default : goal.returns-in_default
unfolding sex_by
returns-in_default c = let r = c.in_default.in_default-own.rest in simp (ne_eqb _ _ r.1, ne_eqb _ _ r.0.1, ne_eqb _ _ r.0.0.1)
