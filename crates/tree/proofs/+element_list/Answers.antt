use Rattle.std.proofs.Common.{◌∙◌, ◌-◌, sym, ap, arith}
use Rattle.std.proofs.lemmas.Result.{err_from_is_err_and}
use lib.Seq.{length-take-le}
use Rattle.tree.specs.Inner.Passed.{counting}
use Rattle.tree.proofs.Heads.{here_within}
use Rattle.tree.proofs.Walking.{plus, plus_none, plus_plus, plus_ended, plus_stopped, passing_bound, held_bound}
use Rattle.tree.proofs.Walking.{counting_done, counting_next, counting_refused}
use Rattle.tree.proofs.Walking.{passing_refused, passing_deep, passing_one, passing_held, passing_stopped}
use Rattle.tree.proofs.+element_list.Goals as goal

pub element-returns-in_err-v : goal.element-returns-in_err-v
element-returns-in_err-v t c =
    let p = err_from_is_err_and c.from_residual.result c.from_residual.ensures.1 in
    rw (p.1, p.2) (sym (passing_refused c.args.levels c.args.s.now c.args.at _ _ (sym c.in_err-v.ensures)))

pub element-returns-then-levels-eq0 : goal.element-returns-then-levels-eq0
element-returns-then-levels-eq0 t c =
    let a = c.args in
    rw c.at.ensures (sym (passing_deep a.levels a.s.now a.at c.in_ok-v.v (sym c.in_ok-v.ensures) c.if-levels-eq0.true))

pub element-slice_bounds-list-end : goal.element-slice_bounds-list-end
element-slice_bounds-list-end t c =
    let a = c.args in
    sym (length-take-le c.in_ok-v.v.to a.s.now (here_within a.s.now a.at c.in_ok-v.v (sym c.in_ok-v.ensures)).2)

pub element-overflow_add-result : goal.element-overflow_add-result
element-overflow_add-result t c =
    let a = c.args in
    let n = c.in_ok-held in
    omega (arith, held_bound (a.levels - 1) a.s.now a.at c.in_ok-v.v (sym c.in_ok-v.ensures) n.held (sym n.ensures))

pub element-returns : goal.element-returns
element-returns t c =
    let a = c.args in
    let n = c.in_ok-held in
    sym (passing_held a.levels a.s.now a.at c.in_ok-v.v (sym c.in_ok-v.ensures) (a.levels - 1)
    (omega (arith, c.if-levels-eq0.false)) (sym c.if-not-opens.ensures) n.held (sym n.ensures))

pub element-returns-in_err-held : goal.element-returns-in_err-held
element-returns-in_err-held t c =
    let r = c.from_residual-in_err-held in
    let p = err_from_is_err_and r.result r.ensures.1 in
    let a = c.args in
    rw (p.1, p.2) (sym (passing_stopped a.levels a.s.now a.at c.in_ok-v.v (sym c.in_ok-v.ensures) (a.levels - 1)
    (omega (arith, c.if-levels-eq0.false)) (sym c.if-not-opens.ensures) _ _ (sym c.in_err-held.ensures)))

pub element-returns-then-not-opens : goal.element-returns-then-not-opens
element-returns-then-not-opens t c =
    let a = c.args in
    sym (passing_one a.levels a.s.now a.at c.in_ok-v.v (sym c.in_ok-v.ensures) (a.levels - 1)
    (omega (arith, c.if-levels-eq0.false)) (sym c.if-not-opens.ensures))

pub list-loop-at-init : goal.list-loop-at-init
list-loop-at-init t c = (plus_none (counting c.args.levels c.args.s.now c.args.start), omega arith)

pub list-overflow_add-elements : goal.list-overflow_add-elements
list-overflow_add-elements t c =
    let a = c.args in
    let l = c.loop-at in
    let w = passing_bound a.levels a.s.now l.at c.in_ok-passed.passed (sym c.in_ok-passed.ensures) in
    omega (arith, w.1, w.2, l.invariant.1)

pub list-loop-at-smaller : goal.list-loop-at-smaller
list-loop-at-smaller t c =
    let a = c.args in
    let w = passing_bound a.levels a.s.now c.loop-at.at c.in_ok-passed.passed (sym c.in_ok-passed.ensures) in
    omega (arith, w.0, w.1)

pub list-loop-at-preserved : goal.list-loop-at-preserved
list-loop-at-preserved t c =
    let a = c.args in
    let l = c.loop-at in
    let p = c.in_ok-passed in
    let e = sym p.ensures in
    let w = passing_bound a.levels a.s.now l.at p.passed e in
    let next = counting_next a.levels a.s.now l.at p.passed c.loop-at-test.true e in (
      plus_plus l.elements p.passed.elements (counting a.levels a.s.now p.passed.to)
          ∙ ap (plus l.elements) (sym next)
          ∙ l.invariant.0,
      omega (arith, w.2, l.invariant.1),
    )

pub list-returns-in_err-passed : goal.list-returns-in_err-passed
list-returns-in_err-passed t c =
    let r = c.from_residual in
    let q = err_from_is_err_and r.result r.ensures.1 in
    let a = c.args in
    let l = c.loop-at in
    rw (q.1, q.2) (sym (plus_stopped l.elements _ _ _
    (counting_refused a.levels a.s.now l.at _ _ c.loop-at-test.true (sym c.in_err-passed.ensures)))
    ∙ l.invariant.0)

pub list-returns : goal.list-returns
list-returns t c =
    let a = c.args in
    let l = c.loop-at in
    sym (plus_ended l.elements _ (counting_done a.levels a.s.now l.at c.loop-at-test.false)) ∙ l.invariant.0
