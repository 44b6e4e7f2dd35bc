-- The tests are those of `is_visa_code`.
use Rattle.zone.specs.Alphabet.{is_filler}
use Rattle.zone.specs.Form.{is_visa_code}
use Rattle.zone.proofs.form.selects_visa.Goals as goal

pub returns : goal.returns
unfolding is_visa_code is_filler
returns c = rw c.is_letter.ensures
