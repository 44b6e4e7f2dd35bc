use Rattle.efcom.specs.EfCom.{known_from}
use Rattle.efcom.proofs.TagList.{known_more, known_stop, known_end}
use native.Mathlib.Nat.{add-zero}
use borrow.Author.Rules.{rules}
use mathlib.Core.Path.{sym, ap, ◌∙◌}
use Rattle.efcom.proofs.list.known.Goals as goal

pub loop-i-init : goal.loop-i-init
loop-i-init c = (search rules, ap (λ p. known_from p c.args.tags.now) (add-zero c.args.from))

pub loop-i-preserved : goal.loop-i-preserved
loop-i-preserved c =
    let l = c.loop-i in
    let from = c.args.from in
    let s = c.args.tags.now in (
      search rules,
      known_more s from l.i (known_from from s) l.invariant.1 (search rules)
          (sym c.is_group.ensures ∙ c.if-not-is_group.false),
    )

pub returns-then-not-is_group : goal.returns-then-not-is_group
returns-then-not-is_group c =
    let l = c.loop-i in
    let from = c.args.from in
    let s = c.args.tags.now in
    rw c.at.ensures (known_stop s from l.i (known_from from s) l.invariant.1 (search rules)
    (sym c.is_group.ensures ∙ c.if-not-is_group.true))

pub returns : goal.returns
returns c =
    let l = c.loop-i in
    let from = c.args.from in
    let s = c.args.tags.now in
    known_end s from l.i (known_from from s) l.invariant.1 c.loop-i-test.false
