use native.Mathlib.Omega.{arith}
use mathlib.Core.Path.{◌≡◌, ◌∙◌, sym}
use lib.ListN.{length, take, drop}
use Rattle.sha256.proofs.ListLaws.{length_part, get_d_part}
use Rattle.sha256.proofs.RoundLaws.{rounds_more, rounds_done}
use Rattle.sha256.proofs.rounds.eight.Goals as goal

pub loop-i-preserved : goal.loop-i-preserved
loop-i-preserved c =
    let a = c.args in
    let l = c.loop-i in
    let k = a.k.now in
    let w = a.w.now in
    let P = take 8 (drop a.at w) in
    let long : length P ≡ 8 = length_part w a.at 8 (omega arith) in
    let word = get_d_part w a.at 8 l.i (omega arith) in
    rw (c.round-s.ensures, ← word) (rounds_more k P l.i l.s (omega arith) (omega arith)) ∙ l.invariant

pub returns : goal.returns
returns c =
    let a = c.args in
    let l = c.loop-i in
    sym (rounds_done a.k.now (take 8 (drop a.at a.w.now)) l.i l.s (omega arith)) ∙ l.invariant
