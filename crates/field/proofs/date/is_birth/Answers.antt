-- The tests are those of `birth_rule`.
use Rattle.field.specs.Date.{year_of, month_of, day_of, birth_rule}
use Rattle.field.proofs.date.is_birth.Goals as goal

pub returns : goal.returns
unfolding birth_rule year_of month_of day_of
returns c = rw (
  c.is_date.ensures,
  c.pair_at-3.ensures,
  c.pair_at-2.ensures,
  c.pair_at.ensures,
)
