use native.Mathlib.Omega.{arith}
use Rattle.inside.proofs.Tallies.{onward, onward_start, onward_hit, onward_miss, onward_end}
use Rattle.inside.proofs.templates.tally_of.Goals as goal

pub loop-at-smaller-then-tag_here-tag : goal.loop-at-smaller-then-tag_here-tag
loop-at-smaller-then-tag_here-tag c =
    let s = c.args.s.now in
    let l = c.loop-at in
    rw c.value_here-value.ensures.0
    (omega (arith, onward s l.at, c.loop-at-test.true))

pub loop-at-preserved-then-tag_here-tag : goal.loop-at-preserved-then-tag_here-tag
loop-at-preserved-then-tag_here-tag c =
    let a = c.args in
    let l = c.loop-at in
    let hit = rw c.tag_here.ensures at c.if-tag_here-tag.true in
    rw (c.value_here-value.ensures.0, c.or-first.ensures)
    (onward_hit a.s.now a.tag a.start l.at l.first l.times
    c.loop-at-test.true l.invariant hit)

pub loop-at-smaller : goal.loop-at-smaller
loop-at-smaller c =
    let s = c.args.s.now in
    let l = c.loop-at in
    rw c.value_here-value.ensures.0 (omega (arith, onward s l.at, c.loop-at-test.true))

pub loop-at-preserved : goal.loop-at-preserved
loop-at-preserved c =
    let a = c.args in
    let l = c.loop-at in
    let miss = rw c.tag_here.ensures at c.if-tag_here-tag.false in
    rw c.value_here-value.ensures.0
    (onward_miss a.s.now a.tag a.start l.at l.first l.times c.loop-at-test.true
    l.invariant miss)

pub loop-at-init : goal.loop-at-init
loop-at-init c = onward_start c.args.s.now c.args.tag c.args.start

pub overflow_add-times : goal.overflow_add-times
overflow_add-times c = omega (
  arith,
  c.loop-at.invariant.no_more,
  c.loop-at-test.true,
)

pub returns : goal.returns
returns c = let a = c.args in
    let l = c.loop-at in
    onward_end a.s.now a.tag a.start l.at l.first l.times c.loop-at-test.false l.invariant
