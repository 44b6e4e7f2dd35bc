-- The cases of `span_rule`.
use Rattle.text_digits.specs.Number.{span_rule}
use Rattle.text.proofs.fields.is_ended.Goals as goal

pub returns-in-Short : goal.returns-in-Short
unfolding span_rule
returns-in-Short c = rw c.in-Short.is

pub returns-in-Long : goal.returns-in-Long
unfolding span_rule
returns-in-Long c = rw c.in-Long.is

pub returns-in-Bad : goal.returns-in-Bad
unfolding span_rule
returns-in-Bad c = rw c.in-Bad.is
