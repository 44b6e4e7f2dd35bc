-- By whether a number was repeated.
use Rattle.object.specs.Inner.Seen.{once_of, seen_check}
use Rattle.object.proofs.seen_check.Goals as goal

pub returns-in-Some : goal.returns-in-Some
unfolding seen_check once_of
returns-in-Some c = rw (c.in-Some.is, c.at.ensures)

pub returns-in-None : goal.returns-in-None
unfolding seen_check once_of
returns-in-None c = rw c.in-None.is c.unless.ensures
