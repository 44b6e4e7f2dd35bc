-- The tests are those of `is_character`.
use Rattle.zone.specs.Alphabet.{is_character, is_filler}
use Rattle.zone.proofs.alphabet.is_character.Goals as goal

pub returns : goal.returns
unfolding is_character is_filler
returns c = rw (c.is_letter.ensures, c.is_digit.ensures)
