use borrow.Author.Rules.{rules}
use native.Mathlib.Omega.{arith}
use mathlib.Core.Path.{◌∙◌}
use Rattle.c40.proofs.Counting.{all_fitted, pair_and_rest, three_at, three_full, not_last, last_at, none_at}
use Rattle.c40.proofs.measure.paired.Goals as goal

pub loop-left-init : goal.loop-left-init
loop-left-init c = let a = c.args in (search rules, all_fitted a.s.now a.room)

pub returns-then-more-gt0 : goal.returns-then-more-gt0
returns-then-more-gt0 c =
    let l = c.loop-left in
    let no_three = rw (c.is_three.ensures, c.values_of.ensures.0) at c.if-not-is_three.true in
    not_last (pair_and_rest l.left.now c.in-len2-up.len_at_least) c.args.room l.n l.invariant.1 no_three (omega arith)

pub returns-then-not-is_three : goal.returns-then-not-is_three
returns-then-not-is_three c =
    let l = c.loop-left in
    let no_three = rw (c.is_three.ensures, c.values_of.ensures.0) at c.if-not-is_three.true in
    c.last.ensures
    ∙ last_at (pair_and_rest l.left.now c.in-len2-up.len_at_least) c.args.room l.n l.invariant.1 no_three (omega arith)

pub returns-then-room-n-lt3 : goal.returns-then-room-n-lt3
returns-then-room-n-lt3 c =
    let l = c.loop-left in
    let is_three = rw (c.is_three.ensures, c.values_of.ensures.0) at c.if-not-is_three.false in
    three_full (pair_and_rest l.left.now c.in-len2-up.len_at_least) c.args.room l.n l.invariant.1 is_three (omega arith)

pub loop-left-preserved : goal.loop-left-preserved
loop-left-preserved c =
    let l = c.loop-left in
    let is_three = rw (c.is_three.ensures, c.values_of.ensures.0) at c.if-not-is_three.false in
    (omega arith, three_at (pair_and_rest l.left.now c.in-len2-up.len_at_least) c.args.room l.n l.invariant.1 is_three)

pub returns : goal.returns
returns c =
    let l = c.loop-left in
    c.then_some.ensures ∙ none_at l.left.now c.args.room l.n _ l.invariant.1 c.in_default.len_below l.invariant.0
