-- The tests of `cut_at`. The optional field is narrow, so that what stands before a filler in it fits an octet.
use borrow.Author.Tests.{ltb-true, leb-true}
use native.Mathlib.Omega.{arith}
use lib.Dec.{leb, ltb}
use Rattle.lent.proofs.Bools.{and_both}
use Rattle.zone.specs.Part.{optional}
use Rattle.zone.proofs.Widths.{within, total_le}
use Rattle.text_digits.specs.Number.{cut_at}
use Rattle.text_digits.proofs.number.cut_at.Goals as goal

pub overflow_sub-result : goal.overflow_sub-result
overflow_sub-result c =
    let n = c.args.filler in
    let both = and_both (leb 2 n) (ltb n c.optional_width.result) c.if-filler-optional_width.true in
    omega (arith, leb-true 2 n both.0)

pub overflow_cast-result : goal.overflow_cast-result
overflow_cast-result c =
    let a = c.args in
    let wide = c.optional_width in
    let both = and_both (leb 2 a.filler) (ltb a.filler wide.result) c.if-filler-optional_width.true in
    omega (arith, ltb-true a.filler wide.result both.1, wide.ensures, within a.form optional, total_le a.form)

pub returns-then-filler-optional_width : goal.returns-then-filler-optional_width
unfolding cut_at
returns-then-filler-optional_width c = rw (rw c.optional_width.ensures at c.if-filler-optional_width.true)

pub returns-else-filler-optional_width : goal.returns-else-filler-optional_width
unfolding cut_at
returns-else-filler-optional_width c = rw (rw c.optional_width.ensures at c.if-filler-optional_width.false)
