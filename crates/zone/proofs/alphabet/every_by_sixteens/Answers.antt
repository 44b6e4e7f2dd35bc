use Prim.Native.Nat.{◌+◌, ◌-◌}
use mathlib.Core.Path.{◌≡◌, sym, ◌∙◌}
use mathlib.Core.Bool.{and-true}
use native.Mathlib.Omega.{arith}
use borrow.Author.Rules.{rules}
use lib.ListN.{length, drop}
use Rattle.lent.proofs.Lists.{rest_all}
use Rattle.zone.specs.Alphabet.{every}
use Rattle.zone.proofs.Every.{every_piece, every_overlap}
use Rattle.zone.proofs.alphabet.every_by_sixteens.Goals as goal

pub loop-i-init : goal.loop-i-init
unfolding every
loop-i-init g c =
    let s = c.args.s.now in
    (search rules, rw (c.every-fine.ensures, rest_all s (length s - 16)) (sym (and-true _)))

pub loop-i-preserved : goal.loop-i-preserved
loop-i-preserved g c =
    let l = c.loop-i in
    let s = c.args.s.now in
    let test = g.T.Test.test in
    let k : l.i + 16 - l.i ≡ 16 = omega arith in (
      search rules,
      rw (c.every-fine-in-loop-i.ensures, k, l.invariant.1)
          (every_piece test s (every test (drop (length s - 16) s)) l.i 16),
    )

pub returns-then-s-lt16 : goal.returns-then-s-lt16
returns-then-s-lt16 g c = c.every.ensures

pub returns : goal.returns
returns g c = let l = c.loop-i in
    let s = c.args.s.now in
    l.invariant.1 ∙ every_overlap g.T.Test.test s (length s - 16) l.i (search rules)
