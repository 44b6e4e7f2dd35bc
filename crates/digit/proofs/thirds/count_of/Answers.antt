-- A count is at most 35.
use native.Mathlib.Omega.{arith}
use Rattle.digit.proofs.Sums.{counted_le}
use Rattle.digit.proofs.thirds.count_of.Goals as goal

pub overflow_cast-result : goal.overflow_cast-result
overflow_cast-result c = omega (arith, counted_le _ c.value.ensures)
