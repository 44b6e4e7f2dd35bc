-- The number matched on is the length of the form that is answered, or of none; where two forms have it, it is the visa or not.
use borrow.Author.Tests.{ne_eqb}
use Rattle.zone.specs.Form.{row, forms, first_form, is_visa}
use Rattle.zone.proofs.form.Form.of_length.Goals as goal

pub returns-in-90 : goal.returns-in-90
unfolding first_form forms row is_visa
returns-in-90 c = rw c.in-90.is

pub returns-then-visa : goal.returns-then-visa
unfolding first_form forms row is_visa
returns-then-visa c = rw (c.in-72.is, c.if-visa.true)

pub returns-else-visa : goal.returns-else-visa
unfolding first_form forms row is_visa
returns-else-visa c = rw (c.in-72.is, c.if-visa.false)

pub returns-then-visa-2 : goal.returns-then-visa-2
unfolding first_form forms row is_visa
returns-then-visa-2 c = rw (c.in-88.is, c.if-visa-2.true)

pub returns-else-visa-2 : goal.returns-else-visa-2
unfolding first_form forms row is_visa
returns-else-visa-2 c = rw (c.in-88.is, c.if-visa-2.false)

pub returns-in_default : goal.returns-in_default
unfolding first_form forms row is_visa
returns-in_default c =
    let r = c.in_default.in_default-own.rest in simp (ne_eqb _ _ r.1, ne_eqb _ _ r.0.1, ne_eqb _ _ r.0.0.1)
