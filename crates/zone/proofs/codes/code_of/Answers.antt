-- The tests are those of `code_of`, and give each class its range.
use native.Mathlib.Omega.{arith}
use Rattle.zone.specs.Codes.{code_of}
use Rattle.zone.proofs.Classes.{digit_range, letter_range}
use Rattle.zone.proofs.codes.code_of.Goals as goal

pub overflow_sub-result : goal.overflow_sub-result
overflow_sub-result c = omega (arith, digit_range c.args.c (rw c.is_digit.ensures at c.if-is_digit.true))

pub returns-then-is_digit : goal.returns-then-is_digit
unfolding code_of
returns-then-is_digit c =
    let digit = rw c.is_digit.ensures at c.if-is_digit.true in
    (rw digit, omega (arith, digit_range c.args.c digit))

pub overflow_sub-result-then-is_letter : goal.overflow_sub-result-then-is_letter
overflow_sub-result-then-is_letter c =
    omega (
      arith,
      letter_range c.args.c
          (rw c.is_letter.ensures at c.if-is_letter.true),
    )

pub returns-then-is_letter : goal.returns-then-is_letter
unfolding code_of
returns-then-is_letter c =
    let other = rw c.is_digit.ensures at c.if-is_digit.false in
    let letter = rw c.is_letter.ensures at c.if-is_letter.true in
    (rw (other, letter), omega (arith, letter_range c.args.c letter))

pub returns : goal.returns
unfolding code_of
returns c =
    let other = rw c.is_digit.ensures at c.if-is_digit.false in
    let neither = rw c.is_letter.ensures at c.if-is_letter.false in
    (rw (other, neither), omega arith)
