-- The checks of a text, part by part, a row for each sentence that can refuse: document 01, "The text" and "Refusal numbers", 3
-- to 9. Said of the text, without the reader; where one fails, those behind it decide nothing.
use Rattle.std.specs.Prelude.{ℕ, ◌+◌, ◌-◌, Bool, cond, not, ◌&&◌, ◌||◌, List, [], ◌∷◌, ◌++◌, eqb, leb, ltb, take, get_or}
use Rattle.refusal.specs.Numbers.{expecting}
use Rattle.refusal.specs.Outcome.{Outcome, unless, refused_unless}
use Rattle.zone.specs.declared.form.Form.{Form}
use Rattle.zone.specs.Alphabet.{is_filler}
use Rattle.zone.specs.Part.{code, state, number, number_check, optional, birth, birth_check, sex, expiry, expiry_check}
use Rattle.zone.specs.Part.{nationality, composite, name, personal, personal_check}
use Rattle.zone.specs.Rows.{PartRow, ◌is◌}
use Rattle.zone.specs.Form.{start, width, field, covered}
use Rattle.digit.specs.Check.{check_of, digit_of}
use Rattle.field.specs.Code.{code_rule}
use Rattle.field.specs.Letters.{state_rule, sex_rule, name_rule}
use Rattle.field.specs.Date.{birth_rule, expiry_rule}
use Rattle.text_digits.specs.Number.{is_long}
use Rattle.text_digits.specs.Digits.{is_left_out}
use Rattle.text_theorems.specs.Accepted.{filler_at}

-- "No such `<`, or fewer than two characters before it, is refusal 5": a long number ends as it should
unfoldable pub is_ended : Form → List ℕ → Bool
is_ended f t = leb 2 (filler_at f t) && ltb (filler_at f t) (width f optional)

-- 3 document code; 4 state or nationality; 5 document number, which "does not begin with `<`"; 6 date; 7 sex; 8 name: each at its
-- "field start", the sex at "its place"
unfoldable pub field_checks : Form → List ℕ → List (PartRow (List Outcome))
field_checks f t =
    code is (unless (code_rule f (field f code t)) 3 (start f code) ∷ [])
    ∷ state is (unless (state_rule (field f state t)) 4 (start f state) ∷ [])
    ∷ nationality is (unless (state_rule (field f nationality t)) 4 (start f nationality) ∷ [])
    ∷ number
    is (unless (not (is_filler (get_or (field f number t) 0 0))) 5 (start f number)
    ∷ unless (not (is_long f t) || is_ended f t) 5 (start f number) ∷ [])
    ∷ birth is (unless (birth_rule (field f birth t)) 6 (start f birth) ∷ [])
    ∷ expiry is (unless (expiry_rule (field f expiry t)) 6 (start f expiry) ∷ [])
    ∷ sex is (unless (sex_rule (get_or t (start f sex) 0)) 7 (start f sex) ∷ [])
    ∷ name is (unless (name_rule (field f name t)) 8 (start f name) ∷ [])
    ∷ []

-- 9 at "the digit", with the one that was expected
unfoldable pub nine_at : List ℕ → ℕ → List ℕ → List Outcome
nine_at t place covers = refused_unless (eqb (get_or t place 0) (digit_of covers)) (expecting (check_of covers)) place ∷ []

-- a short number's check digit at its check place, a long one's before the first filler of the optional field: it "runs over the
-- nine and the further characters, skipping the filler between"; those of birth and expiry, and that of the personal number
-- unless it is left out (document 02, 2026-02); the composite
unfoldable pub digit_checks : Form → List ℕ → List (PartRow (List Outcome))
digit_checks f t =
    number_check is cond (is_long f t) [] (nine_at t (start f number_check) (field f number t))
    ∷ optional
    is cond (is_long f t)
    (nine_at t (start f optional + (filler_at f t - 1)) (field f number t ++ take (filler_at f t - 1) (field f optional t))) []
    ∷ birth_check is nine_at t (start f birth_check) (field f birth t)
    ∷ expiry_check is nine_at t (start f expiry_check) (field f expiry t)
    ∷ personal_check is cond (is_left_out f t) [] (nine_at t (start f personal_check) (field f personal t))
    ∷ composite is nine_at t (start f composite) (covered f t)
    ∷ []
