-- The quotients and remainders of `values_of`.
use Rattle.c40.specs.Reader.{values_of}
use Rattle.c40.proofs.Packing.{small_values}
use Rattle.c40.proofs.pair.values_of.Goals as goal

pub returns : goal.returns
unfolding values_of
returns c = (rw c.packed-n.ensures.0, small_values c.packed-n.result c.packed-n.ensures.1)
