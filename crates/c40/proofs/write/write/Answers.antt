use native.Mathlib.Omega.{arith}
use Prim.Native.Nat.{◌+◌, ◌*◌, ◌/◌, ◌≤◌}
use mathlib.Core.Path.{◌≡◌, ◌∙◌}
use lib.ListN.{length, drop, length-drop}
use Rattle.lent.proofs.Lists.{pair_at_lem, rest_all}
use Rattle.c40.specs.Reader.{read_c40}
use Rattle.c40.specs.Inner.Left.{text_of}
use Rattle.c40.proofs.Storing.{pair_there, three_shorter, three_written, text_stored}
use Rattle.c40.proofs.write.write.Goals as goal

-- a pair is there in each turn
fits : (s : _) (k m : _) → 3 * k + length (text_of (read_c40 (drop (2 * k) s))) ≡ m → k + 1 ≤ m / 3 → 2 * k + 2 ≤ length s
fits s k m e h =
    let there : 3 ≤ length (text_of (read_c40 (drop (2 * k) s))) = omega arith in
    let pair : 2 ≤ length (drop (2 * k) s) = pair_there (drop (2 * k) s) there in
    omega (arith, length-drop (2 * k) s)

pub loop-k-preserved : goal.loop-k-preserved
loop-k-preserved c =
    let l = c.loop-k in
    let s = c.args.s.now in
    let k = l.k in
    let room : 2 * k + 2 ≤ length s = fits s k (length l.out) l.invariant.2 (omega (arith, l.invariant.0)) in
    let there : 3 ≤ length (text_of (read_c40 (drop (2 * k) s))) = omega (arith, l.invariant.2, l.invariant.0) in
    let is = pair_at_lem s (2 * k) room in
    let two : 2 * (k + 1) ≡ 2 * k + 2 = omega arith in
    let three : 3 * (k + 1) ≡ 3 * k + 3 = omega arith in (
      c.put_three.auto.out ∙ l.invariant.0,
      omega (arith, room),
      rw (two, three) (omega (arith, three_shorter is there, c.put_three.auto.out, l.invariant.2)),
      rw (two, three, c.put_three.ensures) (three_written is there l.out _ (3 * k) l.invariant.3),
    )

pub bounds-s-k : goal.bounds-s-k
bounds-s-k c =
    let l = c.loop-k in
    let room = fits c.args.s.now l.k (length l.out) l.invariant.2 (omega (arith, l.invariant.0)) in
    omega (arith, room)

pub bounds-s-k-in-loop-k : goal.bounds-s-k-in-loop-k
bounds-s-k-in-loop-k c =
    let l = c.loop-k in
    let room = fits c.args.s.now l.k (length l.out) l.invariant.2 (omega (arith, l.invariant.0)) in
    omega (arith, room)

pub returns : goal.returns
returns c =
    let l = c.loop-k in
    let s = c.args.s.now in
    let end : length c.args.out.now / 3 ≡ l.k = omega arith in
    c.write_last.ensures
    ∙ rw (end, rest_all s (2 * l.k)) l.invariant.3
    ∙ text_stored s c.args.out.now c.requires
