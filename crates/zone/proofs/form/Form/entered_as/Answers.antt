-- The number matched on is that of the form that is answered, or of none.
use borrow.Author.Tests.{ne_eqb}
use Rattle.zone.specs.Form.{row, forms, first_form, form_by}
use Rattle.zone.proofs.form.Form.entered_as.Goals as goal

pub returns-in-0 : goal.returns-in-0
unfolding form_by first_form forms row
returns-in-0 c = rw c.in-0.is

pub returns-in-1 : goal.returns-in-1
unfolding form_by first_form forms row
returns-in-1 c = rw c.in-1.is

pub returns-in-2 : goal.returns-in-2
unfolding form_by first_form forms row
returns-in-2 c = rw c.in-2.is

pub returns-in-3 : goal.returns-in-3
unfolding form_by first_form forms row
returns-in-3 c = rw c.in-3.is

pub returns-in-4 : goal.returns-in-4
unfolding form_by first_form forms row
returns-in-4 c = rw c.in-4.is

pub returns-in_default : goal.returns-in_default
unfolding form_by first_form forms row
returns-in_default c =
    let r = c.in_default.in_default-own.rest in
    simp (
      ne_eqb _ _ r.1,
      ne_eqb _ _ r.0.1,
      ne_eqb _ _ r.0.0.1,
      ne_eqb _ _ r.0.0.0.1,
      ne_eqb _ _ r.0.0.0.0.1,
    )
