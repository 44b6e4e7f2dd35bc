use native.Mathlib.Omega.{arith}
use mathlib.Core.Path.{◌≡◌, ◌∙◌, sym, refl}
use Prim.Native.Nat.{◌+◌, ◌*◌, ◌≤◌, ◌%◌}
use Rattle.sha256.specs.Constants.{K}
use Rattle.sha256.specs.Hash.{schedule}
use Rattle.sha256.proofs.RingLaws.{holds_first, holds_eight}
use Rattle.sha256.proofs.RoundLaws.{length_K, rounds_turn, rounds_done}
use Rattle.sha256.proofs.rounds.rounds.Goals as goal

pub loop-turn-init : goal.loop-turn-init
loop-turn-init c = (holds_first _ _ c.first_words-w.ensures, refl)

pub loop-turn-preserved : goal.loop-turn-preserved
loop-turn-preserved c =
    let B = c.args.block.now in
    let l = c.loop-turn in
    let g = c.eight_rolling-half in
    let h = c.eight_rolling-s in
    let t = 16 * l.turn in
    let below : t + 32 ≤ 64 = omega arith in
    let place : t % 16 ≡ 0 = omega arith in
    let place_half : (t + 8) % 16 ≡ 8 = omega arith in
    let one : 8 * (2 * l.turn) ≡ t = omega arith in
    let other : 8 * (2 * l.turn + 1) ≡ t + 8 = omega arith in
    let k = rw one at c.eight_constants.ensures in
    let m = rw other at c.eight_constants-in-loop-turn.ensures in
    let half = holds_eight B l.w g.new.w t 0 l.invariant.0 g.ensures.1 place (omega arith) (omega arith) in
    let whole = holds_eight B g.new.w h.new.w (t + 8) 8 half h.ensures.1 place_half (omega arith) (omega arith) in
    let first = rw (← k, ← g.ensures.0) at
    (rounds_turn B l.w t t 0 l.s l.invariant.0 (omega arith) (omega arith) place (omega arith) (omega arith)) in
    let second = rw (← m, ← h.ensures.0) at
    (rounds_turn B g.new.w (t + 8) (t + 8) 8 g.result half (omega arith) (omega arith) place_half (omega arith) (omega arith)) in
    let all : 16 * (l.turn + 1) ≡ t + 8 + 8 = omega arith in
    (rw all whole, rw all (second ∙ first ∙ l.invariant.1))

pub loop-eighth-preserved : goal.loop-eighth-preserved
loop-eighth-preserved c =
    let B = c.args.block.now in
    let l = c.loop-eighth in
    let w = c.loop-turn in
    let all : 8 * (l.eighth + 1) ≡ 8 * l.eighth + 8 = omega arith in
    rw (all, c.eight-s.ensures, c.eight_constants-in-loop-eighth.ensures)
    (rounds_turn B w.w (16 * w.turn) (8 * l.eighth) _ l.s w.invariant.0 (omega arith) (omega arith) (omega arith)
    (omega arith) (omega arith))
    ∙ l.invariant

pub returns : goal.returns
returns c =
    let l = c.loop-eighth in
    let end : c.loop-turn.turn ≡ 3 = omega arith in
    sym (rounds_done K (schedule c.args.block.now) (8 * l.eighth) l.s (omega (arith, length_K)))
    ∙ l.invariant ∙ (rw end at c.loop-turn.invariant.1)
