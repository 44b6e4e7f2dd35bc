use mathlib.Core.Path.{sym, ◌∙◌}
use Rattle.std.specs.Slice.Iter.{chunks_rest, chunks_size}
use Rattle.details.proofs.Listed.{tags_step, tags_done}
use Rattle.details.proofs.Loops.{value_none, value_found, value_more}
use Rattle.details.proofs.named.value_for.Goals as goal

pub returns-then-tag_of-asked : goal.returns-then-tag_of-asked
returns-then-tag_of-asked c =
    let a = c.args in
    let l = c.loop-pair in
    let rest = chunks_rest l.pair-iterator in
    let pair = c.in-Some.pair.now in
    let after = chunks_rest c.next.new.self in
    let steps = c.in-Some.ensures.steps in
    let n = tags_step (chunks_size l.pair-iterator) rest pair after l.invariant.0 steps.1 in
    let found = rw c.tag_of.ensures at c.if-tag_of-asked.true in
    c.given.ensures ∙ (sym (value_found a.asked a.s.now l.at rest pair after n found) ∙ l.invariant.1)

pub loop-pair-preserved : goal.loop-pair-preserved
loop-pair-preserved c =
    let a = c.args in
    let l = c.loop-pair in
    let rest = chunks_rest l.pair-iterator in
    let pair = c.in-Some.pair.now in
    let after = chunks_rest c.next.new.self in
    let steps = c.in-Some.ensures.steps in
    let n = tags_step (chunks_size l.pair-iterator) rest pair after l.invariant.0 steps.1 in
    let other = rw c.tag_of.ensures at c.if-tag_of-asked.false in (
      steps.0 ∙ l.invariant.0,
      rw c.held_at-at.ensures (sym (value_more a.asked a.s.now l.at rest pair after n other) ∙ l.invariant.1),
    )

pub returns : goal.returns
returns c =
    let a = c.args in
    let l = c.loop-pair in
    let rest = chunks_rest l.pair-iterator in
    let none = tags_done rest c.in-None.ensures.steps.1.0 in
    sym (value_none a.asked a.s.now l.at rest none) ∙ l.invariant.1
