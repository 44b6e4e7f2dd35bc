-- Demand 2 for a text: what it is to keep every rule, said of the text and without the reader. Each line is a sentence of
-- document 01, "The text".
use Rattle.std.specs.Prelude.{ℕ, ◌+◌, ◌-◌, ◌≤◌, ◌<◌, ◌≡◌, true, false, List, ◌++◌, length, take, get_or}
use Rattle.zone.specs.declared.form.Form.{Form}
use Rattle.zone.specs.Alphabet.{is_character, is_filler, first_filler}
use Rattle.zone.specs.Part.{Part, number, number_check, optional, birth, birth_check, expiry, expiry_check, composite, name}
use Rattle.zone.specs.Part.{personal, personal_check}
use Rattle.zone.specs.Form.{start, width, has, total, field, covered}
use Rattle.zone.specs.Record.{is_plain}
use Rattle.digit.specs.Check.{digit_of}
use Rattle.field.specs.Letters.{name_rule}
use Rattle.field.specs.Rules.{rule}
use Rattle.text_digits.specs.Number.{is_long}
use Rattle.text_digits.specs.Digits.{is_left_out}

-- the first `<` of the optional field
abbrev pub filler_at : Form → List ℕ → ℕ
filler_at f t = first_filler (field f optional t)

pub record Keeps (f : Form) (t : List ℕ) : Type 0 where
  pub size : length t ≡ total f
  pub alphabet : (i : ℕ) → i < length t → is_character (get_or t i 0) ≡ true
  -- of code, state, nationality, birth, sex and expiry
  pub plain_kept : (x : Part) → is_plain x ≡ true → rule f x (field f x t) ≡ true
  pub number_begins : is_filler (get_or (field f number t) 0 0) ≡ false
  pub number_ends : is_long f t ≡ true → (2 ≤ filler_at f t) × (filler_at f t < width f optional)
  pub name_kept : name_rule (field f name t) ≡ true
  pub number_digit : is_long f t ≡ false → get_or t (start f number_check) 0 ≡ digit_of (field f number t)
  pub long_digit : is_long f t ≡ true
      → get_or t (start f optional + (filler_at f t - 1)) 0
      ≡ digit_of (field f number t ++ take (filler_at f t - 1) (field f optional t))
  pub birth_digit : get_or t (start f birth_check) 0 ≡ digit_of (field f birth t)
  pub expiry_digit : get_or t (start f expiry_check) 0 ≡ digit_of (field f expiry t)
  pub personal_digit : has f personal_check ≡ true → is_left_out f t ≡ false
      → get_or t (start f personal_check) 0 ≡ digit_of (field f personal t)
  pub composite_digit : has f composite ≡ true → get_or t (start f composite) 0 ≡ digit_of (covered f t)
