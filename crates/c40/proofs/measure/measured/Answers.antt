-- Pairs of three tell how many characters there are.
use mathlib.Core.Path.{sym, ◌∙◌}
use Rattle.c40.proofs.Counting.{three_answered}
use Rattle.c40.proofs.measure.measured.Goals as goal

pub returns-then-all_three : goal.returns-then-all_three
returns-then-all_three c =
    let a = c.args in
    c.behind.ensures ∙ three_answered a.s.now a.room (sym c.all_three.ensures ∙ c.if-all_three.true)
