-- A count times a weight.
use native.Mathlib.Omega.{arith}
use borrow.Author.Rules.{rules}
use Rattle.digit.proofs.Sums.{count_le}
use Rattle.digit.proofs.composite.one.Goals as goal

pub overflow_mul-result : goal.overflow_mul-result
overflow_mul-result c = omega (arith, count_le {a = c.octet.result} _ (search rules) c.weight.ensures)

pub returns : goal.returns
returns c = (
  rw (c.weight.ensures, c.octet.ensures),
  omega (arith, count_le {a = c.octet.result} _ (search rules) c.weight.ensures),
)
