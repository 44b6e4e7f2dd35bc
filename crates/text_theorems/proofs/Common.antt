-- The parts that every form has.
use mathlib.Core.Path.{◌≡◌, ap, ◌∙◌}
use mathlib.Core.Bool.{true}
use Rattle.zone.specs.declared.form.Form.{Form}
use Rattle.zone.specs.Part.{Part, number, number_check, birth_check, expiry_check, name}
use Rattle.zone.specs.Form.{row, forms, width, width_in, has}
use Rattle.zone.specs.Record.{is_plain}
use Rattle.zone.proofs.AllForms.{all_forms}
use Rattle.zone.proofs.Holding.{plain_width}
use lib.Dec.{ltb}
use borrow.Author.Rules.{rules}

-- beside the fields of one width (`plain_has`)
pub record Common (f : Form) : Type 0 where
  pub has_number : has f number ≡ true
  pub has_name : has f name ≡ true
  pub has_number_check : has f number_check ≡ true
  pub has_birth_check : has f birth_check ≡ true
  pub has_expiry_check : has f expiry_check ≡ true

pub common : (f : Form) → Common f
unfolding width width_in row forms
common = all_forms Common (search rules)

pub plain_has : (f : Form) (x : Part) → is_plain x ≡ true → has f x ≡ true
plain_has f x p = ap (ltb 0) (plain_width f x p) ∙ p
