-- The tests are those of `is_two`.
use Rattle.c40.specs.Reader.{is_two}
use Rattle.c40.proofs.pair.is_two.Goals as goal

pub returns : goal.returns
unfolding is_two
returns c = rw (c.is_value-2.ensures, c.is_value.ensures)
