-- The tests are those of `is_digit`.
use mathlib.Core.Path.{refl}
use Rattle.zone.specs.Alphabet.{is_digit}
use Rattle.zone.proofs.alphabet.is_digit.Goals as goal

pub returns : goal.returns
unfolding is_digit
returns c = refl
