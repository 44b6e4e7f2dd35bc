use Rattle.std.proofs.lemmas.Result.{err_from_is_err_and}
use Rattle.object.proofs.EntryPlaces.{entry_stands}
use Rattle.object.proofs.EntriesWalked.{tally_step, tally_refused, tally_done}
use Rattle.object.proofs.EntriesByTable.{counted_count}
use borrow.Author.Rules.{rules}
use native.Mathlib.Omega.{arith}
use mathlib.Core.Path.{refl, sym, ◌∙◌}
use Rattle.object.proofs.entries.entries.Goals as goal

pub loop-at-init : goal.loop-at-init
loop-at-init c = (search rules, refl)

pub count-requires : goal.count-requires
count-requires c =
    let l = c.loop-at in
    let k = entry_stands c.args.s.now l.at c.in_ok-entry.entry (sym c.in_ok-entry.ensures) in
    (omega (arith, k.2.numbered.1), omega (arith, l.invariant.0, c.loop-at-test.true))

pub loop-at-smaller : goal.loop-at-smaller
loop-at-smaller c =
    let k = entry_stands c.args.s.now c.loop-at.at c.in_ok-entry.entry (sym c.in_ok-entry.ensures) in
    omega (arith, k.0, c.loop-at-test.true)

pub loop-at-preserved : goal.loop-at-preserved
loop-at-preserved c =
    let s = c.args.s.now in
    let l = c.loop-at in
    let e = c.in_ok-entry.entry in
    let read = sym c.in_ok-entry.ensures in
    let k = entry_stands s l.at e read in
    let n = counted_count l.seen e in
    rw c.count.ensures
    (omega (arith, k.0, n, l.invariant.0), tally_step s l.at l.seen e c.loop-at-test.true read ∙ l.invariant.1)

pub returns-in_err-entry : goal.returns-in_err-entry
returns-in_err-entry c =
    let p = err_from_is_err_and c.from_residual.result c.from_residual.ensures.1 in
    let l = c.loop-at in
    rw (p.1, p.2) (sym (tally_refused c.args.s.now l.at l.seen _ _ c.loop-at-test.true (sym c.in_err-entry.ensures))
    ∙ l.invariant.1)

pub returns : goal.returns
returns c =
    let l = c.loop-at in
    sym (tally_done c.args.s.now l.at l.seen c.loop-at-test.false) ∙ l.invariant.1
