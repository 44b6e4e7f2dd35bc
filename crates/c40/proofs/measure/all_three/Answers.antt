use native.Mathlib.Omega.{arith}
use Prim.Native.Nat.{◌+◌, ◌*◌, ◌/◌, ◌<◌, ◌≤◌}
use mathlib.Core.Path.{◌≡◌}
use lib.ListN.{length, drop, length-drop}
use Rattle.lent.proofs.Lists.{pair_at_lem}
use Rattle.c40.proofs.Counting.{pair_chunk, pass_three, all_passed}
use Rattle.c40.proofs.measure.all_three.Goals as goal

pub loop-pair-preserved : goal.loop-pair-preserved
loop-pair-preserved c =
    let l = c.loop-pair in
    let i = l.pair-index in
    let s = c.args.s.now in
    let fits : 2 * i + 2 ≤ length s = omega (arith, c.as_chunks.ensures.front_len) in
    let next : 2 * (i + 1) ≡ 2 * i + 2 = omega arith in
    let pair = pair_chunk (length s / 2) s i (omega (arith, c.as_chunks.ensures.front_len)) in
    rw (next, c.is_three-fine.ensures, c.values_of.ensures.0, c.as_chunks.ensures.front, pair.0, pair.1)
    (pass_three (pair_at_lem s (2 * i) fits) l.fine l.invariant)

pub returns : goal.returns
returns c =
    let l = c.loop-pair in
    let i = l.pair-index in
    let s = c.args.s.now in
    let end : length s / 2 * 2 ≡ 2 * i = omega (arith, c.as_chunks.ensures.front_len) in
    let few : length (drop (2 * i) s) < 2 = rw length-drop (omega (arith, c.as_chunks.ensures.front_len)) in
    rw (c.is_empty.ensures, c.as_chunks.ensures.back, end) (all_passed (drop (2 * i) s) l.fine _ l.invariant few)
