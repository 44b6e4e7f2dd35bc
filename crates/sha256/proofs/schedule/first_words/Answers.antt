use borrow.Author.Rules.{rules}
use native.Mathlib.Omega.{arith}
use mathlib.Core.Path.{◌≡◌, ◌∙◌, sym}
use Prim.Native.Nat.{◌<◌}
use lib.ListN.{length}
use lib.Seq.{take_all}
use Rattle.sha256.specs.Parsing.{word}
use Rattle.sha256.specs.Hash.{up_to}
use Rattle.sha256.proofs.ScheduleLaws.{up_to_more}
use Rattle.sha256.proofs.schedule.first_words.Goals as goal

pub loop-t-init : goal.loop-t-init
unfolding up_to
loop-t-init c = search rules

pub loop-t-preserved : goal.loop-t-preserved
loop-t-preserved c =
    let l = c.loop-t in
    let h : l.t < length l.w = omega arith in (
      search rules,
      rw c.word.ensures (up_to_more (word c.args.block.now) l.w l.t h l.invariant.1),
    )

pub returns : goal.returns
returns c =
    let l = c.loop-t in
    let e : l.t ≡ 16 = omega arith in
    sym (take_all 16 l.w (omega (arith, l.invariant.0))) ∙ rw e at l.invariant.1
