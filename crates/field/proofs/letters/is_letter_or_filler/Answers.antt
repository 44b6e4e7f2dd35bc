-- The two tests.
use Rattle.zone.specs.Alphabet.{is_filler}
use Rattle.field.proofs.letters.is_letter_or_filler.Goals as goal

pub returns : goal.returns
unfolding is_filler
returns c = rw c.is_letter.ensures
