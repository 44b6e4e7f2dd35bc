-- The tests are those of `is_one`.
use Rattle.c40.specs.Values.{is_c40}
use Rattle.c40.specs.Reader.{is_one}
use Rattle.c40.proofs.pair.is_one.Goals as goal

pub returns : goal.returns
unfolding is_one is_c40
returns c = rw (c.is_letter.ensures, c.is_digit.ensures, c.saturating_sub-c.ensures)
