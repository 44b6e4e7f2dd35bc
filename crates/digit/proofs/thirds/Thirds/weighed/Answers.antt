-- Weights are those of the place, and at most 7.
use native.Mathlib.Omega.{arith}
use borrow.Author.Rules.{rules}
use Rattle.digit.specs.Inner.Thirds.{weighed}
use Rattle.digit.proofs.Sums.{weight_mod, weight_at, part_le}
use Rattle.digit.proofs.thirds.Thirds.weighed.Goals as goal

pub overflow_mul-third : goal.overflow_mul-third
overflow_mul-third c =
    let a = c.args in
    omega (arith, part_le a.self.third _ (search rules) c.weight-3.ensures)

pub overflow_add-result : goal.overflow_add-result
overflow_add-result c =
    let a = c.args in
    omega (
      arith,
      part_le a.self.first _ (search rules) c.weight.ensures,
      part_le a.self.second _ (search rules) c.weight-2.ensures,
    )

pub overflow_add-result-2 : goal.overflow_add-result-2
overflow_add-result-2 c =
    let a = c.args in
    omega (
      arith,
      part_le a.self.first _ (search rules) c.weight.ensures,
      part_le a.self.second _ (search rules) c.weight-2.ensures,
      part_le a.self.third _ (search rules) c.weight-3.ensures,
    )

pub returns : goal.returns
unfolding weighed
returns c =
    let a = c.args in
    let one = c.weight.ensures in
    let two = c.weight-2.ensures in
    let three = c.weight-3.ensures in (
      rw (three, two, one, weight_mod a.place, weight_at a.place 1, weight_at a.place 2),
      omega (
        arith,
        part_le a.self.first _ (search rules) one,
        part_le a.self.second _ (search rules) two,
        part_le a.self.third _ (search rules) three,
      ),
    )

pub overflow_mul-first : goal.overflow_mul-first
overflow_mul-first c = omega (arith, part_le c.args.self.first _ (search rules) c.weight.ensures)

pub overflow_mul-second : goal.overflow_mul-second
overflow_mul-second c = omega (arith, part_le c.args.self.second _ (search rules) c.weight-2.ensures)
