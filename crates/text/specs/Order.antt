-- The checks of a text, in the paper's order: document 01, "The text", Order, and "Refusal numbers", 1 to 9.
use Rattle.std.specs.Prelude.{ℕ, List, [], ◌∷◌, length, get_or, eqb}
use Rattle.refusal.specs.Outcome.{Outcome, passed, or_else, unless}
use Rattle.zone.specs.Alphabet.{first_foreign}
use Rattle.zone.specs.Part.{Part, code, state, number, birth, sex, expiry, nationality, name}
use Rattle.zone.specs.Rows.{PartRow, ◌is◌, in_rows}
use Rattle.zone.specs.Form.{parts, start, field}
use Rattle.zone.specs.declared.form.Form.{Form}
use Rattle.field.specs.Code.{code_rule}
use Rattle.field.specs.Letters.{state_rule, sex_rule, name_rule}
use Rattle.field.specs.Date.{birth_rule, expiry_rule}
use Rattle.text_digits.specs.Number.{number_rule}
use Rattle.text_digits.specs.Digits.{digit_check, in_order}
use Rattle.text_digits.specs.declared.number.Span.{Span}

-- 2: a character that is not of the alphabet, at the first such
unfoldable pub characters : List ℕ → Outcome
characters t = unless (eqb (first_foreign t) (length t)) 2 (first_foreign t)

-- 3 to 8: a field that breaks its rule, at its start
unfoldable pub field_rows : Form → List ℕ → Span → List (PartRow Outcome)
field_rows f t span =
    code is unless (code_rule f (field f code t)) 3 (start f code)
    ∷ state is unless (state_rule (field f state t)) 4 (start f state)
    ∷ nationality is unless (state_rule (field f nationality t)) 4 (start f nationality)
    ∷ number is unless (number_rule f t span) 5 (start f number)
    ∷ birth is unless (birth_rule (field f birth t)) 6 (start f birth)
    ∷ expiry is unless (expiry_rule (field f expiry t)) 6 (start f expiry)
    ∷ sex is unless (sex_rule (get_or t (start f sex) 0)) 7 (start f sex)
    ∷ name is unless (name_rule (field f name t)) 8 (start f name)
    ∷ []

abbrev pub field_check : Form → List ℕ → Span → Part → Outcome
field_check f t span x = in_rows passed (field_rows f t span) x

-- Order: 1, 2, then 3 to 8 by field in text order, then check digits in text order. (1 is told by the length alone.)
unfoldable pub verdict_by : Form → List ℕ → Span → Outcome
verdict_by f t span = or_else (characters t)
    (or_else (in_order (field_check f t span) (parts f)) (in_order (digit_check f t span) (parts f)))
