use mathlib.Core.Path.{refl, ap, sym, ◌∙◌}
use native.Mathlib.Omega.{arith}
use Rattle.std.proofs.lemmas.Result.{err_from_is_err_and}
use Rattle.tlv.specs.Read.{outcome_in}
use Rattle.outer.proofs.FilesWalked.{file_behind, told_next, files_refused, files_done}
use Rattle.outer.proofs.files.Goals as goal

pub loop-at-init : goal.loop-at-init
loop-at-init c = refl

pub loop-at-smaller : goal.loop-at-smaller
loop-at-smaller c =
    let b = file_behind c.args.w.now c.loop-at.at c.in_ok-at.field-0 (sym c.in_ok-at.ensures) in
    omega (arith, b.0, b.1)

pub loop-at-preserved : goal.loop-at-preserved
loop-at-preserved c =
    told_next c.args.w.now c.loop-at.at c.in_ok-at.field-0 c.loop-at-test.true (sym c.in_ok-at.ensures)
    ∙ c.loop-at.invariant

pub returns-in_err-at : goal.returns-in_err-at
unfolding outcome_in
returns-in_err-at c =
    let p = err_from_is_err_and c.from_residual.result c.from_residual.ensures.1 in
    let l = c.loop-at in
    rw (p.1, p.2)
    (sym (ap outcome_in (files_refused c.args.w.now l.at _ _ c.loop-at-test.true (sym c.in_err-at.ensures))) ∙ l.invariant)

pub returns : goal.returns
unfolding outcome_in
returns c =
    let w = c.args.w.now in
    sym (ap outcome_in (files_done w c.loop-at.at c.loop-at-test.false)) ∙ c.loop-at.invariant
