-- Each arm is the row of `year_rule`.
use Rattle.field.specs.Date.{year_rule}
use Rattle.field.proofs.date.is_year.Goals as goal

pub returns-in-Known : goal.returns-in-Known
unfolding year_rule
returns-in-Known c = simp c.in-Known.is

pub returns-in-Unknown : goal.returns-in-Unknown
unfolding year_rule
returns-in-Unknown c = simp c.in-Unknown.is

pub returns-in-Neither : goal.returns-in-Neither
unfolding year_rule
returns-in-Neither c = simp c.in-Neither.is
