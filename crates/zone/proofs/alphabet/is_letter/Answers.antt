-- The tests are those of `is_letter`.
use mathlib.Core.Path.{refl}
use Rattle.zone.specs.Alphabet.{is_letter}
use Rattle.zone.proofs.alphabet.is_letter.Goals as goal

pub returns : goal.returns
unfolding is_letter
returns c = refl
