-- The codes of a form and of a sex: document 01, "The entry".
use Rattle.std.specs.Prelude.{ℕ, cond, eqb}
use Prim.Native.Char.{code}
use Rattle.zone.specs.Alphabet.{filler}
use Rattle.zone.specs.declared.form.Form.{Form}
use Rattle.zone.specs.Form.{row}

-- TD1 0, TD2 1, TD3 2: a form's own row has it
abbrev pub form_code : Form → ℕ
form_code f = (row f).entered

-- `<` 0, F 1, M 2
unfoldable pub sex_code : ℕ → ℕ
sex_code c = cond (eqb c (code "F")) 1 (cond (eqb c (code "M")) 2 0)

-- the sex of a code; 0, which is none, for 3
unfoldable pub sex_by : ℕ → ℕ
sex_by n = cond (eqb n 0) filler (cond (eqb n 1) (code "F") (cond (eqb n 2) (code "M") 0))
