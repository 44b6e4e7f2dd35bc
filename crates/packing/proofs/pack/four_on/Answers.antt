-- The four, and of the next unit what stands above.
use mathlib.Core.Path.{◌≡◌, sym, ◌∙◌}
use native.Mathlib.Omega.{arith}
use Rattle.packing.specs.Packed.{four_on}
use Rattle.packing.proofs.Packing.{none_on}
use Rattle.packing.proofs.pack.four_on.Goals as goal

pub returns-then-this-eq0 : goal.returns-then-this-eq0
returns-then-this-eq0 g c = rw c.if-this-eq0.true (c.four_at-four.ensures.0 ∙ sym (none_on c.args.s.now c.args.at))

pub returns : goal.returns
unfolding four_on
returns g c =
    let one : g.row.ON ≡ 1 = omega (arith, c.if-this-eq0.false, c.requires.1) in
    rw (one, c.four_at-four.ensures.0, c.from.ensures)
