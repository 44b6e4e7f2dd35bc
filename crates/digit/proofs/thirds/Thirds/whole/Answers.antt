-- Each counts its value.
use mathlib.Core.Path.{refl}
use Rattle.zone.specs.Alphabet.{is_digit, is_letter}
use Rattle.digit.specs.Check.{value}
use Rattle.digit.proofs.thirds.Thirds.whole.Goals as goal

pub returns : goal.returns
unfolding value is_digit is_letter
returns c = let e = c.by.ensures in e value refl (λ x n q. q)
