-- The form's own row has it.
use Rattle.zone.proofs.FormTold.{entered_tells}
use Rattle.entry.proofs.codes.form_code.Goals as goal

pub returns : goal.returns
returns c = (c.entered.ensures, rw c.entered.ensures (entered_tells c.args.form).1)
