-- A known year is tested, an unknown one passes.
use Rattle.field.specs.Date.{is_leap}
use Rattle.field.proofs.date.is_leap.Goals as goal

pub returns-in-Known : goal.returns-in-Known
unfolding is_leap
returns-in-Known c = simp c.in-Known.is

pub returns-in-Unknown : goal.returns-in-Unknown
unfolding is_leap
returns-in-Unknown c = simp c.in-Unknown.is

pub returns-in-Neither : goal.returns-in-Neither
unfolding is_leap
returns-in-Neither c = simp c.in-Neither.is
