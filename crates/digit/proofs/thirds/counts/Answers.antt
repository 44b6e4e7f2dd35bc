use native.Mathlib.Omega.{arith}
use borrow.Author.Rules.{rules}
use lib.ListN.{length-take, length-set}
use Rattle.digit.proofs.Counting.{counts_none, counts_more, counts_all}
use Rattle.digit.proofs.thirds.counts.Goals as goal

pub loop-i-init : goal.loop-i-init
loop-i-init c = (
  rw (c.part-s.ensures, length-take) (omega arith),
  search rules,
  counts_none 90 c.part-s.result.now,
)

pub loop-i-preserved : goal.loop-i-preserved
loop-i-preserved c =
    let l = c.loop-i in
    let s = c.part-s.result.now in (
      search rules,
      rw length-set l.invariant.1,
      rw c.count_of.ensures (counts_more s l.counts l.i (search rules) (omega arith) l.invariant.2),
    )

pub returns : goal.returns
returns c = let l = c.loop-i in
    let part = c.part-s in
    let t = c.args.text.now in
    counts_all t part.result.now l.counts l.i part.ensures (search rules) l.invariant.2
