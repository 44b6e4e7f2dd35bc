-- The two orders.
use Rattle.refusal.proofs.Outcomes.{and_else}
use Rattle.text_digits.specs.Inner.Checks.{in_turn}
use Rattle.text_digits.proofs.order.in_turn.Goals as goal

pub returns-then-ahead : goal.returns-then-ahead
unfolding in_turn
returns-then-ahead c = rw (c.and.ensures, and_else, c.if-ahead.true)

pub returns-else-ahead : goal.returns-else-ahead
unfolding in_turn
returns-else-ahead c = rw (c.and-else-ahead.ensures, and_else, c.if-ahead.false)
