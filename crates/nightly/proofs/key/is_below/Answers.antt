use mathlib.Core.Path.{refl}
use borrow.Author.Rules.{rules}
use Rattle.nightly.specs.Key.{is_below}
use Rattle.nightly.proofs.Below.{below_more, below_differs, below_shorter, below_end}
use Rattle.nightly.proofs.key.is_below.Goals as goal

pub returns-then-a-i : goal.returns-then-a-i
returns-then-a-i c =
    let l = c.loop-i in
    let a = c.args.a.now in
    let b = c.args.b.now in
    below_shorter a b l.i (is_below a b) l.invariant.1 c.if-a-i.true c.loop-i-test.true

pub loop-i-preserved : goal.loop-i-preserved
loop-i-preserved c =
    let l = c.loop-i in
    let a = c.args.a.now in
    let b = c.args.b.now in
    (search rules, below_more a b l.i (is_below a b) l.invariant.1 (search rules) (search rules) c.if-a-i-2.true)

pub returns-else-a-i-2 : goal.returns-else-a-i-2
returns-else-a-i-2 c =
    let l = c.loop-i in
    let a = c.args.a.now in
    let b = c.args.b.now in
    below_differs a b l.i (is_below a b) l.invariant.1 (search rules) (search rules) c.if-a-i-2.false

pub returns : goal.returns
returns c =
    let l = c.loop-i in
    let a = c.args.a.now in
    let b = c.args.b.now in
    below_end a b l.i (is_below a b) l.invariant.1 c.loop-i-test.false

pub loop-i-init : goal.loop-i-init
loop-i-init c = (search rules, refl)
