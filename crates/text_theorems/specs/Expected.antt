-- The digit that a refusal 9 carries: document 02, 2026-07, "The check of one field shall answer with the digit that it worked
-- out, and every refusal 9 shall carry that digit up".
use Rattle.std.specs.Prelude.{ℕ, ◌+◌, ◌≤◌, ◌≡◌, cond, List, eqb, get_or}
use Prim.Native.Char.{code}
use Rattle.zone.specs.declared.form.Form.{Form}
use Rattle.zone.specs.Part.{birth, birth_check, expiry, expiry_check, composite, personal, personal_check}
use Rattle.zone.specs.Form.{start, field, covered}
use Rattle.digit.specs.Check.{check_of}
use Rattle.text_digits.specs.Number.{span_of, checked_by}

-- the characters that document 01, "The text", has the check digit at a place run over: those of the birth, of the expiry and
-- of the personal number at theirs, all that the composite covers at its own, and at the one that is left those of the number
unfoldable pub covered_at : Form → List ℕ → (place : ℕ) → List ℕ
covered_at f t place =
    cond (eqb place (start f birth_check)) (field f birth t)
    (cond (eqb place (start f expiry_check)) (field f expiry t)
    (cond (eqb place (start f personal_check)) (field f personal t)
    (cond (eqb place (start f composite)) (covered f t) (checked_by f t (span_of f t)))))

-- d is what was expected at a place
pub record Expected (f : Form) (t : List ℕ) (d place : ℕ) : Type 0 where
  pub worked_out : d ≡ check_of (covered_at f t place)
  pub one_digit : d ≤ 9
  -- what stands there is another
  pub not_there : get_or t place 0 ≡ code "0" + d → ⊥
