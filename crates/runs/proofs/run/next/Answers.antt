-- The end, past the end, or an entry at the front of what is left.
use borrow.Author.Tests.{eq-eqb, ne_eqb, lt-ltb, le-ltb}
use Rattle.runs.specs.Run.{read_entry}
use Rattle.lent.proofs.Lists.{rest_all}
use Rattle.runs.proofs.run.next.Goals as goal

pub returns : goal.returns
unfolding read_entry
returns c =
    let a = c.args in
    rw (
      c.entry_at.ensures,
      ne_eqb _ _ c.if-at-run.false,
      le-ltb _ _ c.if-run-at.false,
      rest_all a.run.now a.at,
    )

pub returns-then-at-run : goal.returns-then-at-run
unfolding read_entry
returns-then-at-run c = rw (eq-eqb _ _ c.if-at-run.true)

pub returns-then-run-at : goal.returns-then-run-at
unfolding read_entry
returns-then-run-at c = rw (c.no_entry.ensures, ne_eqb _ _ c.if-at-run.false, lt-ltb _ _ c.if-run-at.true)
