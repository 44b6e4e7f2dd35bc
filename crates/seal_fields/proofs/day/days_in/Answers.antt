-- Each arm is a row of `days_in`.
use borrow.Author.Tests.{ne_eqb}
use Rattle.field.specs.Date.{is_short}
use Rattle.seal_fields.specs.Day.{days_in}
use Rattle.seal_fields.proofs.day.days_in.Goals as goal

pub returns-then-is_leap : goal.returns-then-is_leap
unfolding days_in is_short
returns-then-is_leap c = simp (c.if-is_leap.true, ← c.is_leap.ensures, c.in-2.is)

pub returns-else-is_leap : goal.returns-else-is_leap
unfolding days_in is_short
returns-else-is_leap c = simp (c.if-is_leap.false, ← c.is_leap.ensures, c.in-2.is)

pub returns-in-4 : goal.returns-in-4
unfolding days_in is_short
returns-in-4 c = simp c.in-4.is

pub returns-in-6 : goal.returns-in-6
unfolding days_in is_short
returns-in-6 c = simp c.in-6.is

pub returns-in-9 : goal.returns-in-9
unfolding days_in is_short
returns-in-9 c = simp c.in-9.is

pub returns-in-11 : goal.returns-in-11
unfolding days_in is_short
returns-in-11 c = simp c.in-11.is

pub returns-in_default : goal.returns-in_default
unfolding days_in is_short
returns-in_default c = simp (
  ne_eqb _ _ c.in_default.in_default-own.rest.0.0.0.0.1,
  ne_eqb _ _ c.in_default.in_default-own.rest.0.0.0.1,
  ne_eqb _ _ c.in_default.in_default-own.rest.0.0.1,
  ne_eqb _ _ c.in_default.in_default-own.rest.0.1,
  ne_eqb _ _ c.in_default.in_default-own.rest.1,
)
