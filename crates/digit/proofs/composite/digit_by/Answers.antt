-- The sums of the parts, and their digit.
use Rattle.digit.specs.Inner.Covered.{composite_sum}
use Rattle.digit.proofs.composite.digit_by.Goals as goal

pub returns : goal.returns
unfolding composite_sum
returns c =
    let sums = c in
    rw (
      c.as_digit.ensures,
      sums.weighed-4.ensures.0,
      sums.weighed-3.ensures.0,
      sums.weighed-2.ensures.0,
      sums.weighed.ensures.0,
    )
