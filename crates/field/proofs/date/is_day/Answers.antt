-- A known day is tested, an unknown one passes.
use Rattle.field.specs.Date.{day_rule}
use Rattle.field.proofs.date.is_day.Goals as goal

pub returns-in-Known : goal.returns-in-Known
unfolding day_rule
returns-in-Known c = simp c.in-Known.is

pub returns-in-Unknown : goal.returns-in-Unknown
unfolding day_rule
returns-in-Unknown c = simp c.in-Unknown.is

pub returns-in-Neither : goal.returns-in-Neither
unfolding day_rule
returns-in-Neither c = simp c.in-Neither.is
