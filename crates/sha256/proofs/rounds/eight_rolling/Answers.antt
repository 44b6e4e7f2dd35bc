use borrow.Author.Rules.{rules}
use native.Mathlib.Omega.{arith}
use mathlib.Core.Path.{◌≡◌, ◌∙◌, sym, refl}
use Prim.Native.Nat.{◌+◌}
use native.Mathlib.Nat.{add-zero, add_assoc}
use lib.ListN.{length, take, drop}
use Rattle.sha256.specs.Inner.Ring.{rolled}
use Rattle.sha256.proofs.ListLaws.{length_part}
use Rattle.sha256.proofs.RingLaws.{rolled_more, behind_more, word_kept}
use Rattle.sha256.proofs.RoundLaws.{rounds_more, rounds_done}
use Rattle.sha256.proofs.rounds.eight_rolling.Goals as goal

pub loop-i-init : goal.loop-i-init
loop-i-init c = (refl, rw add-zero, refl)

pub loop-i-preserved : goal.loop-i-preserved
loop-i-preserved c =
    let a = c.args in
    let l = c.loop-i in
    let v = a.w.now in
    let k = a.k.now in
    let P = take 8 (drop a.at v) in
    let m : length P ≡ 8 = length_part v a.at 8 (omega arith) in
    let kept = word_kept l.w v a.at 8 l.i l.invariant.0 (search rules) in (
      rw (← add_assoc a.at l.i 1) (behind_more l.w v (a.at + l.i) _ l.invariant.0),
      rw c.follower.ensures (rolled_more l.w 8 a.at l.i (search rules)) ∙ l.invariant.1,
      rw (c.round-s.ensures, kept) (rounds_more k P l.i l.s (omega arith) (omega arith)) ∙ l.invariant.2,
    )

pub returns : goal.returns
unfolding rolled
returns c =
    let a = c.args in
    let l = c.loop-i in
    let e : l.i ≡ 8 = omega arith in (
      sym (rounds_done a.k.now (take 8 (drop a.at a.w.now)) l.i l.s (omega arith)) ∙ l.invariant.2,
      rw e at l.invariant.1,
    )
