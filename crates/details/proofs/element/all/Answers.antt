use mathlib.Core.Path.{refl, ap, sym, ◌∙◌}
use native.Mathlib.Omega.{arith}
use Rattle.std.proofs.lemmas.Result.{err_from_is_err_and}
use Rattle.tlv.specs.Read.{outcome_in}
use Rattle.details.proofs.Walked.{detail_behind, told_next, details_refused, details_done}
use Rattle.details.proofs.element.all.Goals as goal

pub loop-at-init : goal.loop-at-init
loop-at-init c = refl

pub loop-at-smaller : goal.loop-at-smaller
loop-at-smaller c =
    let b = detail_behind c.args.s.now c.loop-at.at c.in_ok-at.field-0 (sym c.in_ok-at.ensures) in
    omega (arith, b.0, b.1)

pub loop-at-preserved : goal.loop-at-preserved
loop-at-preserved c =
    told_next c.args.s.now c.loop-at.at c.in_ok-at.field-0 c.loop-at-test.true (sym c.in_ok-at.ensures)
    ∙ c.loop-at.invariant

pub returns-in_err-at : goal.returns-in_err-at
unfolding outcome_in
returns-in_err-at c =
    let p = err_from_is_err_and c.from_residual.result c.from_residual.ensures.1 in
    let l = c.loop-at in
    rw (p.1, p.2)
    (sym (ap outcome_in (details_refused c.args.s.now l.at _ _ c.loop-at-test.true (sym c.in_err-at.ensures))) ∙ l.invariant)

pub returns : goal.returns
unfolding outcome_in
returns c =
    let s = c.args.s.now in
    sym (ap outcome_in (details_done s c.loop-at.at c.loop-at-test.false)) ∙ c.loop-at.invariant
