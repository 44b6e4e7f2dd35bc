-- The cases of `further_in`.
use Rattle.text_digits.specs.Inner.Spans.{further_in}
use Rattle.text.proofs.record.further_in.Goals as goal

pub returns-in-Short : goal.returns-in-Short
unfolding further_in
returns-in-Short c = rw c.in-Short.is

pub returns-in-Long : goal.returns-in-Long
unfolding further_in
returns-in-Long c = rw c.in-Long.is

pub returns-in-Bad : goal.returns-in-Bad
unfolding further_in
returns-in-Bad c = rw c.in-Bad.is
