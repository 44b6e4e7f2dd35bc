use mathlib.Core.Path.{sym, ◌∙◌}
use borrow.Author.Rules.{rules}
use lib.ListN.{length-set}
use Rattle.std.specs.Slice.Iter.{chunks_rest, chunks_size}
use Rattle.details.proofs.Listed.{tags_step, tags_done, listing_start, listing_end, listing_foreign, listing_twice, listing_more}
use Rattle.details.proofs.list.is_list.Goals as goal

pub loop-pair-init : goal.loop-pair-init
loop-pair-init c = (
  search rules,
  search rules,
  rw (c.into_iter-pair-iterator.ensures.into_iter_gives, c.chunks-pair-items.ensures.rest) (listing_start c.args.tags.now),
)

pub returns-then-not-is_named : goal.returns-then-not-is_named
returns-then-not-is_named c =
    let a = c.args in
    let l = c.loop-pair in
    let rest = chunks_rest l.pair-iterator in
    let pair = c.in-Some.pair.now in
    let after = chunks_rest c.next.new.self in
    let steps = c.in-Some.ensures.steps in
    let n = tags_step (chunks_size l.pair-iterator) rest pair after l.invariant.0 steps.1 in
    let foreign = rw c.tag_of.ensures at (sym c.is_named.ensures ∙ c.if-not-is_named.true) in
    listing_foreign a.tags.now l.seen rest l.invariant.2 pair after n foreign

pub returns-then-seen-low-ne0 : goal.returns-then-seen-low-ne0
returns-then-seen-low-ne0 c =
    let a = c.args in
    let l = c.loop-pair in
    let rest = chunks_rest l.pair-iterator in
    let pair = c.in-Some.pair.now in
    let after = chunks_rest c.next.new.self in
    let steps = c.in-Some.ensures.steps in
    let n = tags_step (chunks_size l.pair-iterator) rest pair after l.invariant.0 steps.1 in
    let named = rw c.tag_of.ensures at (sym c.is_named.ensures ∙ c.if-not-is_named.false) in
    listing_twice a.tags.now l.seen rest l.invariant.2 pair after n (rw c.octet-low.ensures at c.octet-low.type_inv) named
    (rw c.octet-low.ensures at c.if-seen-low-ne0.true)

pub loop-pair-preserved : goal.loop-pair-preserved
loop-pair-preserved c =
    let a = c.args in
    let l = c.loop-pair in
    let rest = chunks_rest l.pair-iterator in
    let pair = c.in-Some.pair.now in
    let after = chunks_rest c.next.new.self in
    let steps = c.in-Some.ensures.steps in
    let n = tags_step (chunks_size l.pair-iterator) rest pair after l.invariant.0 steps.1 in
    let e = c.octet-low.ensures in
    let named = rw c.tag_of.ensures at (sym c.is_named.ensures ∙ c.if-not-is_named.false) in (
      steps.0 ∙ l.invariant.0,
      simp length-set l.invariant.1,
      rw e (listing_more a.tags.now l.seen rest l.invariant.2 pair after n (rw e at c.octet-low.type_inv) named l.invariant.1
          (rw e at c.if-seen-low-ne0.false)),
    )

pub returns : goal.returns
returns c =
    let a = c.args in
    let l = c.loop-pair in
    let rest = chunks_rest l.pair-iterator in
    let none = tags_done rest c.in-None.ensures.steps.1.0 in
    listing_end a.tags.now l.seen rest l.invariant.2 none
