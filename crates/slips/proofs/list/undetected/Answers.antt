-- Another pair that is undetected is listed, any other is passed over, and at the end none is left.
use Rattle.std.proofs.Common.{rules, arith, ◌<◌, length, sym, refl, ◌∙◌}
use lib.ListN.{length-set}
use Rattle.digit_theorems.specs.Pairs.{undetected}
use Rattle.slips.proofs.Listing.{listing, one_more_lem, passed_over, all_listed}
use Rattle.slips.proofs.list.undetected.Goals as goal
use Rattle.slips.proofs.list.undetected.Goals.{then-is_undetected, else-is_undetected}

pub loop-number-init : goal.loop-number-init
unfolding listing undetected
loop-number-init c = (search rules, search rules, search rules, refl)

pub loop-number-preserved : goal.loop-number-preserved
loop-number-preserved c =
    let l = c.loop-number in
    let m = c.args.modulus in
    let told = sym c.is_undetected.ensures in
    let h : l.number < 1369 = search rules in
    let k : l.count < length l.numbers = omega (arith, l.invariant.2) in
    elim c.if-is_undetected.branch [
      | then-is_undetected w ↦ rw (w.numbers-is, w.count-is) (
        search rules,
        search rules,
        rw (length-set l.numbers l.count l.number) l.invariant.2,
        one_more_lem m l.numbers l.count l.number h k (told ∙ w.if-is_undetected.true) ∙ l.invariant.3,
      )
      | else-is_undetected w ↦ rw (w.numbers-is, w.count-is) (
        search rules,
        search rules,
        l.invariant.2,
        passed_over m l.numbers l.count l.number h (told ∙ w.if-is_undetected.false) ∙ l.invariant.3,
      )
    ]

pub returns : goal.returns
returns c =
    let l = c.loop-number in
    let m = c.args.modulus in
    (omega (arith, l.invariant.2), sym (all_listed m l.numbers l.count l.number (search rules)) ∙ l.invariant.3)
