-- Nine, or six and as many more as the six say.
use borrow.Author.Rules.{rules}
use borrow.Author.Tests.{eq-eqb, ne_eqb}
use Rattle.seal_header.specs.Reference.{version, before, reference_length}
use Rattle.seal_header.proofs.reference.length.Goals as goal

pub returns-then-octet-eq2 : goal.returns-then-octet-eq2
unfolding reference_length before version
returns-then-octet-eq2 c =
    record {
      value = (simp (← c.octet.ensures, eq-eqb _ _ c.if-octet-eq2.true), search rules);
      upper_bound = search rules;
    }

pub returns-else-octet-eq2 : goal.returns-else-octet-eq2
unfolding reference_length before version
returns-else-octet-eq2 c = let other = ne_eqb _ _ c.if-octet-eq2.false in
    record {
      value = (
        simp (← c.octet.ensures, other, c.more.ensures.0),
        simp (← c.octet.ensures, other) (search rules),
      );
      upper_bound = search rules;
    }
