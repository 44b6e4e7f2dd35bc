use borrow.Author.Rules.{rules}
use Prim.Native.Nat.{◌≤◌, ◌<◌}
use mathlib.Core.Path.{refl, ◌∙◌}
use mathlib.Core.Logic.{inl}
use native.Mathlib.Omega.{arith}
use lib.ListN.{length}
use Rattle.lent.proofs.Lists.{copy_more, copy_ends}
use Rattle.seal_writing.proofs.parts.copy_all.Goals as goal

pub loop-i-preserved : goal.loop-i-preserved
loop-i-preserved c =
    let a = c.args in
    let l = c.loop-i in
    let hf : l.i < length a.from.now = omega arith in
    let ht : l.i < length a.to.now = omega (arith, l.invariant.0) in (
      search rules,
      search rules,
      search rules,
      rw l.invariant.3 (copy_more a.to.now a.from.now l.i ht hf),
    )

pub returns : goal.returns
returns c =
    let a = c.args in
    let l = c.loop-i in
    let end : length a.from.now ≤ l.i = omega arith in
    l.invariant.3 ∙ copy_ends a.to.now a.from.now l.i (omega (arith, l.invariant.0, l.invariant.1)) l.invariant.1 (inl end)

pub loop-i-init : goal.loop-i-init
loop-i-init c = (c.requires, search rules, refl, refl)
