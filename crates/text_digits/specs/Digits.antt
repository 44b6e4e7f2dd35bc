-- The check digits of a text, in text order: document 01, "The text", Order, and "Refusal numbers", 9.
use Rattle.std.specs.Prelude.{ℕ, ◌+◌, Bool, cond, ◌&&◌, List, [], ◌∷◌, get_or, eqb}
use Rattle.refusal.specs.Numbers.{expecting}
use Rattle.refusal.specs.Outcome.{Outcome, passed, or_else, refused_unless}
use Rattle.zone.specs.Alphabet.{is_filler, every}
use Rattle.zone.specs.Part.{Part, number_check, optional, birth, birth_check, expiry, expiry_check, composite, personal}
use Rattle.zone.specs.Part.{personal_check}
use Rattle.zone.specs.Rows.{PartRow, ◌is◌, in_rows}
use Rattle.zone.specs.Form.{start, field, covered}
use Rattle.zone.specs.declared.form.Form.{Form}
use Rattle.digit.specs.Check.{check_of, digit_of}
use Rattle.text_digits.specs.Number.{checked_by}
use Rattle.text_digits.specs.declared.number.Span.{Span}
use Rattle.text_digits.specs.declared.number.Span.TheVariants.{Short, Long, Bad}

-- 9: a place that does not hold the check digit of what it covers; the refusal carries the digit worked out (document 02,
-- 2026-07)
unfoldable pub digit_at : List ℕ → ℕ → List ℕ → Outcome
digit_at t place covers = refused_unless (eqb (get_or t place 0) (digit_of covers)) (expecting (check_of covers)) place

-- a short number's digit stands at its check place, a long one's in the optional field behind the further characters
unfoldable pub number_digit : Form → List ℕ → Span → Outcome
number_digit f t Short = digit_at t (start f number_check) (checked_by f t Short)
number_digit f t (Long further) = passed
number_digit f t Bad = passed

unfoldable pub further_digit : Form → List ℕ → Span → Outcome
further_digit f t Short = passed
further_digit f t (Long further) = digit_at t (start f optional + further) (checked_by f t (Long further))
further_digit f t Bad = passed

-- a State may print `<` there when the personal number is all fillers (document 02, 2026-02)
unfoldable pub is_left_out : Form → List ℕ → Bool
is_left_out f t = is_filler (get_or t (start f personal_check) 0) && every is_filler (field f personal t)

unfoldable pub personal_digit : Form → List ℕ → Outcome
personal_digit f t = cond (is_left_out f t) passed (digit_at t (start f personal_check) (field f personal t))

-- the digits that are looked at, each where its part stands
unfoldable pub digit_rows : Form → List ℕ → Span → List (PartRow Outcome)
digit_rows f t span =
    number_check is number_digit f t span
    ∷ optional is further_digit f t span
    ∷ birth_check is digit_at t (start f birth_check) (field f birth t)
    ∷ expiry_check is digit_at t (start f expiry_check) (field f expiry t)
    ∷ personal_check is personal_digit f t
    ∷ composite is digit_at t (start f composite) (covered f t)
    ∷ []

abbrev pub digit_check : Form → List ℕ → Span → Part → Outcome
digit_check f t span x = in_rows passed (digit_rows f t span) x

-- one check for each part, the first that fails deciding
unfoldable pub in_order : (Part → Outcome) → List Part → Outcome
in_order check [] = passed
in_order check (x ∷ xs) = or_else (check x) (in_order check xs)
