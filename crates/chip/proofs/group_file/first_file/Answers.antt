use mathlib.Core.Path.{refl, ap, sym, ◌∙◌}
use native.Mathlib.Omega.{arith}
use Rattle.tlv.specs.Tags.{group_of}
use Rattle.outer.proofs.FilesWalked.{file_behind}
use Rattle.chip.proofs.FilesByTable.{in_next_lem, lent_never}
use Rattle.chip.proofs.FirstFile.{first_here, first_on, first_missing}
use Rattle.chip.proofs.group_file.first_file.Goals as goal

pub loop-at-init : goal.loop-at-init
loop-at-init c = (c.requires, refl)

pub returns-then-group_of-group : goal.returns-then-group_of-group
returns-then-group_of-group c =
    let a = c.args in
    let l = c.loop-at in
    let w = a.w.now in
    let held = c.in_ok-held in
    let g = c.group_of.ensures.0 ∙ ap group_of c.octet.ensures in
    first_here w a.group l.at l.invariant.0 held.held c.loop-at-test.true (sym held.ensures)
    (sym g ∙ c.if-group_of-group.true) ∙ l.invariant.1

pub loop-at-smaller : goal.loop-at-smaller
loop-at-smaller c =
    let l = c.loop-at in
    let held = c.in_ok-held in
    let b = file_behind c.args.w.now l.at held.held (sym held.ensures) in
    omega (arith, b.0, b.1)

pub loop-at-preserved : goal.loop-at-preserved
loop-at-preserved c =
    let a = c.args in
    let l = c.loop-at in
    let w = a.w.now in
    let held = c.in_ok-held in
    let e = sym held.ensures in
    let g = c.group_of.ensures.0 ∙ ap group_of c.octet.ensures in
    let h = c.loop-at-test.true in (
      (in_next_lem w l.at held.held h e l.invariant.0).1,
      first_on w a.group l.at l.invariant.0 held.held h e (λ s. c.if-group_of-group.false (g ∙ s))
          ∙ l.invariant.1,
    )

pub returns-in_err-held : goal.returns-in_err-held
returns-in_err-held c =
    let l = c.loop-at in
    let w = c.args.w.now in
    absurd (lent_never w w w l.at l.invariant.0 _ _ c.loop-at-test.true (sym c.in_err-held.ensures))

pub returns : goal.returns
returns c =
    let a = c.args in
    let l = c.loop-at in
    rw c.at.ensures (first_missing a.w.now a.group l.at l.invariant.0 c.loop-at-test.false ∙ l.invariant.1)
