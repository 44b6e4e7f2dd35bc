-- The tests are those of the rules.
use Rattle.field.proofs.date.is_date.Goals as goal

pub returns : goal.returns
returns c = rw (
  c.is_day.ensures,
  c.days_in.ensures,
  c.is_month.ensures,
  c.is_year.ensures,
)
