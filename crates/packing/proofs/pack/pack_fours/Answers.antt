use borrow.Author.Rules.{rules}
use Prim.Native.Nat.{◌<◌}
use mathlib.Core.Path.{◌≡◌, ◌∙◌}
use native.Mathlib.Omega.{arith}
use Rattle.packing.proofs.Packing.{pack_more, pack_ends}
use Rattle.packing.proofs.pack.pack_fours.Goals as goal

pub loop-i-preserved : goal.loop-i-preserved
loop-i-preserved g c =
    let l = c.loop-i in
    let a = c.args in
    let h : l.i < a.fours = omega arith in (
      search rules,
      rw (c.put_three.ensures, l.invariant.1)
          (pack_more g.row.ON a.out.now a.s.now a.fours l.i c.four_on.result (search rules) h c.four_on.ensures),
    )

pub returns : goal.returns
returns g c =
    let l = c.loop-i in
    let a = c.args in
    let e : l.i ≡ a.fours = omega arith in
    l.invariant.1 ∙ pack_ends g.row.ON a.out.now a.s.now a.fours l.i (search rules) e
