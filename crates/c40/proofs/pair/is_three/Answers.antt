-- The tests are those of `is_three`.
use Rattle.c40.specs.Reader.{is_three}
use Rattle.c40.proofs.pair.is_three.Goals as goal

pub returns : goal.returns
unfolding is_three
returns c = rw (c.is_value-3.ensures, c.is_value-2.ensures, c.is_value.ensures)
