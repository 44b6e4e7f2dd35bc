-- The tests are those of `letters_then_fillers`.
use Rattle.zone.specs.Alphabet.{is_filler}
use Rattle.field.specs.Letters.{letters_then_fillers}
use Rattle.field.proofs.letters.letters_then_fillers.Goals as goal

pub returns-then-is_letter : goal.returns-then-is_letter
unfolding letters_then_fillers is_filler
returns-then-is_letter c = simp (
  ← c.is_letter_or_filler.ensures,
  ← c.is_letter-then-is_letter.ensures,
  c.if-is_letter.true,
  ← c.is_letter.ensures,
)

pub returns-else-is_letter : goal.returns-else-is_letter
unfolding letters_then_fillers is_filler
returns-else-is_letter c = simp (← c.is_letter-else-is_letter.ensures, c.if-is_letter.false, ← c.is_letter.ensures)
