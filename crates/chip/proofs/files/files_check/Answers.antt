use mathlib.Core.Path.{refl, ap, sym, ◌∙◌}
use native.Mathlib.Omega.{arith}
use borrow.Author.Rules.{rules}
use lib.ListN.{length-set}
use Rattle.std.proofs.lemmas.Result.{err_from_is_err_and}
use Rattle.tlv.specs.Tags.{group_of}
use Rattle.outer.proofs.FilesWalked.{file_behind}
use Rattle.chip.proofs.FilesByTable.{in_next_lem, lent_on, lent_refused, lent_never, lent_done}
use Rattle.chip.proofs.files.files_check.Goals as goal

pub loop-at-init : goal.loop-at-init
loop-at-init c = (search rules, c.requires, refl)

pub loop-at-smaller : goal.loop-at-smaller
loop-at-smaller c =
    let l = c.loop-at in
    let held = c.in_ok-held in
    let b = file_behind c.args.w.now l.at held.held (sym held.ensures) in
    omega (arith, b.0, b.1)

pub loop-at-preserved : goal.loop-at-preserved
loop-at-preserved c =
    let a = c.args in
    let l = c.loop-at in
    let w = a.w.now in
    let tags = a.tags.now in
    let held = c.in_ok-held in
    let e = sym held.ensures in
    let g = c.group_of-group.ensures.0 ∙ ap group_of c.octet-tag.ensures in
    let p = rw (c.octet-tag.ensures, g) at (sym c.in_ok-file_check.ensures) in
    let h = c.loop-at-test.true in (
      length-set l.table _ 0 ∙ l.invariant.0,
      (in_next_lem w l.at held.held h e l.invariant.1).1,
      rw g (lent_on w tags l.table l.at l.invariant.1 held.held h e p ∙ l.invariant.2),
    )

pub returns-in_err-file_check : goal.returns-in_err-file_check
returns-in_err-file_check c =
    let a = c.args in
    let l = c.loop-at in
    let w = a.w.now in
    let tags = a.tags.now in
    let held = c.in_ok-held in
    let g = c.group_of-group.ensures.0 ∙ ap group_of c.octet-tag.ensures in
    let p = rw (c.octet-tag.ensures, g) at (sym c.in_err-file_check.ensures) in
    let r = c.from_residual-in_err-file_check in
    let q = err_from_is_err_and r.result r.ensures.1 in
    rw (q.1, q.2)
    (lent_refused w tags l.table l.at l.invariant.1 held.held _ _ c.loop-at-test.true (sym held.ensures) p ∙ l.invariant.2)

pub returns-in_err-held : goal.returns-in_err-held
returns-in_err-held c =
    let a = c.args in
    let l = c.loop-at in
    absurd (lent_never a.w.now a.tags.now l.table l.at l.invariant.1 _ _ c.loop-at-test.true (sym c.in_err-held.ensures))

pub returns : goal.returns
returns c =
    let a = c.args in
    let l = c.loop-at in
    lent_done a.w.now a.tags.now l.table l.at l.invariant.1 c.loop-at-test.false ∙ l.invariant.2
