-- The tests are those of `sex_rule`.
use mathlib.Core.Path.{refl}
use Rattle.zone.specs.Alphabet.{is_filler}
use Rattle.field.specs.Letters.{sex_rule}
use Rattle.field.proofs.letters.is_sex.Goals as goal

pub returns : goal.returns
unfolding sex_rule is_filler
returns c = refl
