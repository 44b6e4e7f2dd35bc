-- The length tells, and whether a visa is selected where one may stand (`told-so`).
use mathlib.Core.Path.{sym}
use Rattle.zone.proofs.FormTold.{told_so}
use Rattle.zone.proofs.form.Form.of_text.Goals as goal

pub returns : goal.returns
returns c =
    let a = c.args in
    rw (
      c.of_length.ensures,
      c.selects_visa.ensures,
      c.octet-2.ensures,
      c.octet.ensures,
      c.is_alone.ensures,
    )
    (sym (told_so a.source a.text.now))
