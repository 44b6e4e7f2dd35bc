-- The number in two octets, less 1 where there is one.
use borrow.Author.Rules.{rules}
use Rattle.c40.specs.Reader.{number_of}
use Rattle.c40.proofs.pair.packed.Goals as goal

pub returns : goal.returns
unfolding number_of
returns c = search rules
