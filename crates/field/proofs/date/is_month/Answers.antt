-- A known month is tested, an unknown one passes.
use Rattle.field.specs.Date.{month_rule}
use Rattle.field.proofs.date.is_month.Goals as goal

pub returns-in-Known : goal.returns-in-Known
unfolding month_rule
returns-in-Known c = simp c.in-Known.is

pub returns-in-Unknown : goal.returns-in-Unknown
unfolding month_rule
returns-in-Unknown c = simp c.in-Unknown.is

pub returns-in-Neither : goal.returns-in-Neither
unfolding month_rule
returns-in-Neither c = simp c.in-Neither.is
