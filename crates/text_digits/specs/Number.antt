-- The document number, short or long: document 01, "The text", Field rules, Number.
use Rattle.std.specs.Prelude.{ℕ, ◌-◌, Bool, true, false, cond, not, ◌&&◌, List, ◌++◌, take, get_or, leb, ltb}
use Rattle.zone.specs.Alphabet.{is_filler, first_filler}
use Rattle.zone.specs.Part.{number, number_check, optional}
use Rattle.zone.specs.Form.{start, width, longest, field}
use Rattle.zone.specs.Record.{trimmed}
use Rattle.zone.specs.Rooms.{nine}
use Rattle.zone.specs.declared.form.Form.{Form}
use Rattle.text_digits.specs.declared.number.Span.{Span}
use Rattle.text_digits.specs.declared.number.Span.TheVariants.{Short, Long, Bad}

-- in TD1 and TD2, whose longest is over nine, a `<` at its check place means a long number
unfoldable pub is_long : Form → List ℕ → Bool
is_long f t = ltb nine (longest f) && is_filler (get_or t (start f number_check) 0)

-- before the first `<` of the optional field stand at least one further character of the number and then the check digit
unfoldable pub cut_at : Form → ℕ → Span
cut_at f filler = cond (leb 2 filler && ltb filler (width f optional)) (Long (filler - 1)) Bad

unfoldable pub span_of : Form → List ℕ → Span
span_of f t = cond (is_long f t) (cut_at f (first_filler (field f optional t))) Short

unfoldable pub span_rule : Span → Bool
span_rule Short = true
span_rule (Long further) = true
span_rule Bad = false

-- does not begin with `<`
unfoldable pub number_rule : Form → List ℕ → Span → Bool
number_rule f t span = not (is_filler (get_or (field f number t) 0 0)) && span_rule span

-- the check runs over the nine and the further characters, skipping the filler between
unfoldable pub checked_by : Form → List ℕ → Span → List ℕ
checked_by f t Short = field f number t
checked_by f t (Long further) = field f number t ++ take further (field f optional t)
-- refused before its check is looked at
checked_by f t Bad = field f number t

-- trailing fillers are dropped; inner ones stay
unfoldable pub number_by : Form → List ℕ → Span → List ℕ
number_by f t Short = trimmed (field f number t)
number_by f t (Long further) = field f number t ++ take further (field f optional t)
-- refused: no record holds it
number_by f t Bad = trimmed (field f number t)
