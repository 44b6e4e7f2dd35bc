-- The two cases of the first test.
use borrow.Author.Tests.{eq-eqb, ne_eqb}
use Rattle.zone.specs.Alphabet.{is_filler}
use Rattle.text_digits.proofs.digits.is_left_out.Goals as goal

pub returns-then-check-eq-FILLER : goal.returns-then-check-eq-FILLER
unfolding is_filler
returns-then-check-eq-FILLER c = rw (c.all_fillers.ensures, eq-eqb _ _ c.if-check-eq-FILLER.true)

pub returns-else-check-eq-FILLER : goal.returns-else-check-eq-FILLER
unfolding is_filler
returns-else-check-eq-FILLER c = rw (ne_eqb _ _ c.if-check-eq-FILLER.false)
