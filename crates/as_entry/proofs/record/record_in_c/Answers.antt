-- Field by field.
use Rattle.as_entry.specs.Opened.{record_in_c}
use Rattle.as_entry.proofs.record.record_in_c.Goals as goal

pub returns : goal.returns
unfolding record_in_c
returns c = rw c.form_code.ensures.0
