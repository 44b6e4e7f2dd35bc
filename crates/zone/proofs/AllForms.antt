-- What holds of each form of the list of all forms holds of every form. No other law goes through the forms one by one: what the
-- layouts have in common is said by a test that computes.
use mathlib.Core.List.{List, [], ◌∷◌}
use Rattle.zone.specs.declared.form.Form.{Form}
use Rattle.zone.specs.declared.form.Form.TheVariants.{Td1, Td2, Td3, MrvA, MrvB}
use Rattle.zone.specs.Form.{forms}

abbrev pub OfEach : (Form → Type 0) → List Form → Type 0
OfEach P [] = Unit
OfEach P (f ∷ fs) = P f × OfEach P fs

pub all_forms : (P : Form → Type 0) → OfEach P forms → (f : Form) → P f
unfolding forms
all_forms P each MrvA = each.0
all_forms P each MrvB = each.1.0
all_forms P each Td1 = each.1.1.0
all_forms P each Td2 = each.1.1.1.0
all_forms P each Td3 = each.1.1.1.1.0
