-- The three characters.
use Rattle.field.specs.Letters.{state_rule}
use Rattle.field.proofs.letters.is_state.Goals as goal

pub returns : goal.returns
unfolding state_rule
returns c = rw (
  c.letters_then_fillers.ensures,
  c.octet-3.ensures,
  c.octet-2.ensures,
  c.octet.ensures,
)
