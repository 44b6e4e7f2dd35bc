-- Each entry is seen, and then those behind it.
use mathlib.Core.Path.{sym, ◌∙◌}
use native.Mathlib.Omega.{arith}
use Rattle.std.proofs.lemmas.Result.{err_from_is_err_and}
use Rattle.nightly.specs.Key.{key_at}
use Rattle.nightly.specs.List.{entries}
use Rattle.nightly.specs.Inner.Seen.{walked}
use Rattle.nightly.proofs.EntryHere.{entry_behind}
use Rattle.nightly.proofs.Walking.{left}
use Rattle.nightly.proofs.Seeing.{none_before, seen_next, seen_refused, seen_done}
use Rattle.nightly.proofs.walk.walk.Goals as goal

pub loop-at-init : goal.loop-at-init
unfolding walked left entries
loop-at-init c = (omega arith, rw (none_before c.args.list.now))

pub loop-at-smaller : goal.loop-at-smaller
loop-at-smaller c =
    let w = c.args.list.now in
    let l = c.loop-at in
    let h = c.loop-at-test.true in
    omega (arith, h, entry_behind w (key_at w l.before) l.at c.in_ok-place.place (sym c.in_ok-place.ensures))

pub loop-at-preserved : goal.loop-at-preserved
loop-at-preserved c =
    let a = c.args in
    let w = a.list.now in
    let l = c.loop-at in
    let place = c.in_ok-place in
    let e = sym place.ensures in
    let h = c.loop-at-test.true in
    let behind = entry_behind w (key_at w l.before) l.at place.place e in (
      omega (arith, l.invariant.0, behind),
      rw c.grown-own.ensures
          (seen_next w (key_at w l.before) l.at a.house l.entries l.own place.place h e ∙ l.invariant.1),
    )

pub returns-in_err-place : goal.returns-in_err-place
returns-in_err-place c =
    let a = c.args in
    let w = a.list.now in
    let l = c.loop-at in
    let p = err_from_is_err_and c.from_residual.result c.from_residual.ensures.1 in
    rw (p.1, p.2)
    (seen_refused w (key_at w l.before) l.at a.house l.entries l.own _ _ c.loop-at-test.true (sym c.in_err-place.ensures)
    ∙ l.invariant.1)

pub returns : goal.returns
returns c =
    let a = c.args in
    let w = a.list.now in
    let l = c.loop-at in
    seen_done w (key_at w l.before) l.at a.house l.entries l.own c.loop-at-test.false ∙ l.invariant.1
