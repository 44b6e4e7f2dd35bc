use Rattle.tlv.specs.Read.{read_of}
use mathlib.Core.Path.{refl, ap, sym, ◌∙◌}
use native.Mathlib.Omega.{arith}
use Rattle.tlv.specs.Tags.{group_of}
use Rattle.outer.proofs.FilesWalked.{file_behind}
use Rattle.chip.proofs.FirstFile.{found_here, found_on, found_done, found_refused}
use Rattle.chip.proofs.group_file.group_from.Goals as goal

pub loop-at-smaller-then-found-own : goal.loop-at-smaller-then-found-own
loop-at-smaller-then-found-own c =
    let a = c.args in
    let l = c.loop-at in
    let e = sym c.file_at.ensures
    ∙ ap read_of c.in-Ok.is in
    let b = file_behind a.w.now l.at c.in-Ok.held e in
    omega (arith, b.0, b.1)

pub loop-at-preserved-then-found-own : goal.loop-at-preserved-then-found-own
loop-at-preserved-then-found-own c =
    let a = c.args in
    let l = c.loop-at in
    let w = a.w.now in
    let e = sym c.file_at.ensures
    ∙ ap read_of c.in-Ok.is in
    let v = c.in-Ok.held in
    let g = c.group_of-own.ensures.0 ∙ ap group_of c.octet-tag.ensures in
    let h = c.loop-at-test.true in
    let b = file_behind w l.at v e in (
      found_here w a.group l.at l.found v h e (rw (← g) c.if-found-own.true) ∙ l.invariant.0,
      λ z. absurd (omega (arith, b.0, z)),
    )

pub loop-at-smaller : goal.loop-at-smaller
loop-at-smaller c =
    let a = c.args in
    let l = c.loop-at in
    let e = sym c.file_at.ensures
    ∙ ap read_of c.in-Ok.is in
    let b = file_behind a.w.now l.at c.in-Ok.held e in
    omega (arith, b.0, b.1)

pub loop-at-preserved : goal.loop-at-preserved
loop-at-preserved c =
    let a = c.args in
    let l = c.loop-at in
    let w = a.w.now in
    let e = sym c.file_at.ensures
    ∙ ap read_of c.in-Ok.is in
    let v = c.in-Ok.held in
    let g = c.group_of-own.ensures.0 ∙ ap group_of c.octet-tag.ensures in
    let h = c.loop-at-test.true in
    (found_on w a.group l.at l.found v h e (rw (← g) c.if-found-own.false) ∙ l.invariant.0, l.invariant.1)

pub returns-in-Err : goal.returns-in-Err
returns-in-Err c =
    let a = c.args in
    let l = c.loop-at in
    found_refused a.w.now a.group l.at l.found _ _ c.loop-at-test.true
    (sym c.file_at.ensures ∙ ap read_of c.in-Err.is)
    ∙ l.invariant.0

pub returns : goal.returns
returns c =
    let a = c.args in
    let l = c.loop-at in
    found_done a.w.now a.group l.at l.found c.loop-at-test.false l.invariant.1 ∙ l.invariant.0

pub loop-at-init : goal.loop-at-init
loop-at-init c = (refl, λ z. refl)
