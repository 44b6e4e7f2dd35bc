use native.Mathlib.Omega.{arith}
use mathlib.Core.Path.{◌∙◌}
use Rattle.std.proofs.Common.{of_calls}
use Rattle.digit.proofs.ByThirds.{left_none, left_three, left_end}
use Rattle.digit.proofs.thirds.Thirds.by.Goals as goal

pub loop-i-init : goal.loop-i-init
loop-i-init g c =
    (search of_calls, omega arith, omega arith, omega arith, omega arith, λ f p. left_none f c.args.part.now)

pub loop-i-preserved : goal.loop-i-preserved
loop-i-preserved g c =
    let l = c.loop-i in (
      search of_calls,
      omega arith,
      omega (arith, c.count.type_inv, c.from-first.ensures),
      omega (arith, c.count-in-loop-i.type_inv, c.from-second.ensures),
      omega (arith, c.count-in-loop-i-2.type_inv, c.from-third.ensures),
      λ f p. rw (
        c.from-first.ensures,
        c.from-second.ensures,
        c.from-third.ensures,
        p _ _ c.count.ensures,
        p _ _ c.count-in-loop-i.ensures,
        p _ _ c.count-in-loop-i-2.ensures,
      )
          (left_three f l.first l.second l.third c.args.part.now l.i (omega arith) ∙ l.invariant.5 f p),
    )

pub returns : goal.returns
returns g c =
    let l = c.loop-i in
    λ f none p. rw (
      c.from-first-2.ensures,
      c.from-second-2.ensures,
      p _ _ c.count-2.ensures,
      p _ _ c.count-3.ensures,
      c.octet.ensures,
      c.octet-2.ensures,
    )
    (left_end f none l.first l.second l.third c.args.part.now l.i (omega arith) ∙ l.invariant.5 f p)
