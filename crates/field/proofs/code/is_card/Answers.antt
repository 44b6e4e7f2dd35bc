-- The tests are those of `card_rule`.
use Rattle.field.specs.Code.{card_rule, is_second}
use Rattle.field.proofs.code.is_card.Goals as goal

pub returns : goal.returns
unfolding card_rule is_second
returns c = rw (c.is_letter_or_filler.ensures, c.is_card_letter.ensures)
