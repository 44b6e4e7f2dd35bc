use Prim.Native.Nat.{min}
use mathlib.Core.Path.{◌≡◌, ◌∙◌}
use mathlib.Core.List.{◌++◌}
use native.Mathlib.Nat.{mod-lt, add-zero}
use lib.Dec.{lit<}
use lib.ListN.{length}
use Rattle.std.specs.Slice.Iter.{chunks_rest}
use Rattle.digit.specs.Check.{check_of, digit_of}
use Rattle.digit.specs.Inner.Thirds.{as_digit}
use Rattle.digit.proofs.Sums.{sum_more, sum_none}
use Rattle.digit.proofs.ByThirds.{weighed_sum}
use Rattle.digit.proofs.of.Goals as goal

pub loop-part-preserved : goal.loop-part-preserved
loop-part-preserved c =
    let l = c.loop-part in
    let next = c.in-Some.ensures.steps in
    let part = c.in-Some.part.now in
    let rest = chunks_rest c.next.new.self in
    let wide : length part ≡ min 255 (length (part ++ rest)) = rw (l.invariant.0, next.1.0) at next.1.1 in
    let left = rw next.1.0 at l.invariant.2 in (
      next.0 ∙ l.invariant.0,
      mod-lt _ (lit< tt),
      rw (c.weighed.ensures.0, c.whole.ensures, weighed_sum 0 part) (sum_more l.sum part rest wide ∙ left),
    )

pub returns : goal.returns
unfolding as_digit digit_of check_of
returns c =
    let l = c.loop-part in
    let left = rw (sum_none (chunks_rest l.part-iterator) c.in-None.ensures.steps.1.0, add-zero l.sum) at l.invariant.2 in
    rw (c.as_digit.ensures, left)
