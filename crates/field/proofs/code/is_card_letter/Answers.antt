-- The tests are those of `is_card_letter`.
use mathlib.Core.Path.{refl}
use Rattle.field.specs.Code.{is_card_letter}
use Rattle.field.proofs.code.is_card_letter.Goals as goal

pub returns : goal.returns
unfolding is_card_letter
returns c = refl
