-- The rule of each field: document 01, "The text", Field rules. The number's goes by how it stands in the text.
use Rattle.std.specs.Prelude.{ℕ, Bool, true, List, [], ◌∷◌, get_or}
use Rattle.zone.specs.declared.form.Form.{Form}
use Rattle.zone.specs.Part.{Part, code, state, nationality, birth, sex, expiry, name}
use Rattle.zone.specs.Rows.{PartRow, ◌is◌, in_rows}
use Rattle.field.specs.Code.{code_rule}
use Rattle.field.specs.Letters.{state_rule, sex_rule, name_rule}
use Rattle.field.specs.Date.{birth_rule, expiry_rule}

unfoldable pub rule_rows : Form → List ℕ → List (PartRow Bool)
rule_rows f s =
    code is code_rule f s
    ∷ state is state_rule s
    ∷ nationality is state_rule s
    ∷ birth is birth_rule s
    ∷ sex is sex_rule (get_or s 0 0)
    ∷ expiry is expiry_rule s
    ∷ name is name_rule s
    ∷ []

-- whether what stands for a part keeps its rule; true where no row has one
abbrev pub rule : Form → Part → List ℕ → Bool
rule f x s = in_rows true (rule_rows f s) x
