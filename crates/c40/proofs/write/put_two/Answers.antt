-- Two stores.
use native.Mathlib.Numerals.{add-one}
use Rattle.c40.specs.Reader.{two}
use Rattle.c40.proofs.write.put_two.Goals as goal

pub returns : goal.returns
unfolding two
returns c = rw (← c.values_of-v.ensures.0, c.character_of-2.ensures, c.character_of.ensures, add-one)
