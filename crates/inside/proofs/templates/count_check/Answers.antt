-- Groups 2 to 4, or others.
use Rattle.inside.specs.Templates.{count_check}
use Rattle.inside.proofs.templates.count_check.Goals as goal

pub returns-then-group : goal.returns-then-group
unfolding count_check
returns-then-group c = rw c.if-group.true c.templates_check.ensures

pub returns-else-group : goal.returns-else-group
unfolding count_check
returns-else-group c = rw c.if-group.false
