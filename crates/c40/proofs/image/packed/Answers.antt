-- The code is the definition.
use borrow.Author.Rules.{rules}
use Rattle.c40.specs.Image.{packed}
use Rattle.c40.proofs.image.packed.Goals as goal

pub returns : goal.returns
unfolding packed
returns c = search rules
