use mathlib.Core.List.{[]}
use native.Mathlib.Nat.{add-zero}
use lib.ListN.{get_or, length-set}
use Rattle.efcom.specs.EfCom.{once_from}
use Rattle.efcom.proofs.TagList.{back_from, back_more, once_more, once_stop, once_end}
use Rattle.lent.proofs.Marks.{none_marked, one_marked, unmarked, marked}
use borrow.Author.Rules.{rules}
use mathlib.Core.Path.{ap}
use Rattle.efcom.proofs.list.once.Goals as goal

pub loop-i-init : goal.loop-i-init
unfolding back_from
loop-i-init c = (
  search rules,
  search rules,
  none_marked 256,
  ap (λ p. once_from p [] c.args.tags.now)
      (add-zero c.args.from),
)

pub loop-i-preserved : goal.loop-i-preserved
loop-i-preserved c =
    let l = c.loop-i in
    let from = c.args.from in
    let s = c.args.tags.now in
    let d = get_or s l.i 0 in
    let free = unmarked 256 l.seen (back_from l.i s) d l.invariant.2 (search rules) c.if-seen-octet-ne0.false in (
      search rules,
      simp length-set l.invariant.1,
      rw (back_more l.i s)
          (one_marked 256 l.seen (back_from l.i s) d 1 l.invariant.2 l.invariant.1 (search rules) (search rules)),
      once_more s from l.i (once_from from [] s) l.invariant.3 (search rules) free,
    )

pub returns-then-seen-octet-ne0 : goal.returns-then-seen-octet-ne0
returns-then-seen-octet-ne0 c =
    let l = c.loop-i in
    let from = c.args.from in
    let s = c.args.tags.now in
    let d = get_or s l.i 0 in
    rw c.at.ensures (once_stop s from l.i (once_from from [] s) l.invariant.3 (search rules)
    (marked 256 l.seen (back_from l.i s) d l.invariant.2 (search rules) c.if-seen-octet-ne0.true))

pub returns : goal.returns
returns c =
    let l = c.loop-i in
    let from = c.args.from in
    let s = c.args.tags.now in
    once_end s from l.i (once_from from [] s) l.invariant.3 c.loop-i-test.false
