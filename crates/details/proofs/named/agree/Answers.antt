use mathlib.Core.Path.{sym, ◌∙◌}
use Rattle.std.specs.Slice.Iter.{chunks_rest, chunks_size}
use Rattle.details.proofs.Listed.{tags_step, tags_done}
use Rattle.details.proofs.Loops.{agree_end, agree_missing, agree_differs, agree_more}
use Rattle.details.proofs.named.agree.Goals as goal

pub returns-then-s-at : goal.returns-then-s-at
returns-then-s-at c =
    let a = c.args in
    let l = c.loop-pair in
    let rest = chunks_rest l.pair-iterator in
    let pair = c.in-Some.pair.now in
    let after = chunks_rest c.next.new.self in
    let steps = c.in-Some.ensures.steps in
    let n = tags_step (chunks_size l.pair-iterator) rest pair after l.invariant.0 steps.1 in
    rw c.at.ensures (sym (agree_missing a.end a.s.now l.at rest pair after n c.if-s-at.true) ∙ l.invariant.1)

pub returns-then-tag_here-stands_for : goal.returns-then-tag_here-stands_for
returns-then-tag_here-stands_for c =
    let a = c.args in
    let l = c.loop-pair in
    let rest = chunks_rest l.pair-iterator in
    let pair = c.in-Some.pair.now in
    let after = chunks_rest c.next.new.self in
    let steps = c.in-Some.ensures.steps in
    let n = tags_step (chunks_size l.pair-iterator) rest pair after l.invariant.0 steps.1 in
    let other = rw (c.tag_here.ensures, c.stands_for.ensures, c.tag_of.ensures) at c.if-tag_here-stands_for.true in
    rw c.at-then-tag_here-stands_for.ensures
    (sym (agree_differs a.end a.s.now l.at rest pair after n c.if-s-at.false other) ∙ l.invariant.1)

pub loop-pair-preserved : goal.loop-pair-preserved
loop-pair-preserved c =
    let a = c.args in
    let l = c.loop-pair in
    let rest = chunks_rest l.pair-iterator in
    let pair = c.in-Some.pair.now in
    let after = chunks_rest c.next.new.self in
    let steps = c.in-Some.ensures.steps in
    let n = tags_step (chunks_size l.pair-iterator) rest pair after l.invariant.0 steps.1 in
    let same = rw (c.tag_here.ensures, c.stands_for.ensures, c.tag_of.ensures) at c.if-tag_here-stands_for.false in (
      steps.0 ∙ l.invariant.0,
      rw c.held_at-at.ensures
          (sym (agree_more a.end a.s.now l.at rest pair after n c.if-s-at.false same) ∙ l.invariant.1),
    )

pub returns : goal.returns
returns c =
    let a = c.args in
    let l = c.loop-pair in
    let rest = chunks_rest l.pair-iterator in
    let none = tags_done rest c.in-None.ensures.steps.1.0 in
    c.unless.ensures ∙ (sym (agree_end a.end a.s.now l.at rest none) ∙ l.invariant.1)
