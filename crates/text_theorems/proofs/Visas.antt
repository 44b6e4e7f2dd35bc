-- VISAS, "as text only" (document 02, 2026-05): a text that selects none is answered alone as it is in group 1 and in a seal; one
-- that does is there 2 at its first foreign character, and else 3 at its start, as it was before.
use Prim.Native.Nat.{ℕ}
use mathlib.Core.Path.{◌≡◌, refl, ap, sym, ◌∙◌}
use mathlib.Core.Bool.{Bool, true, false, ◌&&◌, false≢true}
use mathlib.Core.List.{List}
use lib.ListN.{length, get_or}
use Rattle.std.specs.Prelude.{Some}
use Rattle.refusal.specs.Numbers.{by}
use Rattle.refusal.specs.Outcome.{refused, or_else}
use Rattle.zone.specs.declared.form.Form.{Form}
use Rattle.zone.specs.declared.form.Source.{Source}
use Rattle.zone.specs.declared.form.Source.TheVariants.{Alone}
use Rattle.zone.specs.Part.{code}
use Rattle.zone.specs.Form.{row, is_visa, is_alone, selects_visa, form_of, parts, field}
use Rattle.zone.proofs.FormTold.{told_by, told_so}
use Rattle.field.specs.Code.{code_rule}
use Rattle.field.proofs.Characters.{code_tells}
use Rattle.text_digits.specs.Number.{span_of}
use Rattle.text_digits.specs.Digits.{in_order}
use Rattle.text.specs.Order.{characters, field_rows, field_check, verdict_by}
use Rattle.text.specs.Read.{Answer, read_text, read_by, record_by}
use Rattle.text.proofs.EachCheck.{answered_outcome}
use Rattle.text_theorems.proofs.Acceptance.{read_as}
use Rattle.text_theorems.proofs.CodeTold.{first, code_there}

-- no visa is selected: the forms that may stand make no difference
pub no_visa_same : (source : Source) (t : List ℕ) → selects_visa t ≡ false → read_text source t ≡ read_text Alone t
unfolding read_text
no_visa_same source t none = ap (λ told. read_by told t) (told_so source t ∙ ap (told_by (length t)) same ∙ sym (told_so Alone t))
  where
    and_none : (b : Bool) → b && selects_visa t ≡ false
    and_none true = none
    and_none false = refl

    same : is_alone source && selects_visa t ≡ is_alone Alone && selects_visa t
    same = and_none (is_alone source) ∙ sym (and_none (is_alone Alone))

-- ---- a visa where none may stand

-- the code of another form begins otherwise
code_other : (f : Form) (t : List ℕ) → is_visa (row f).kind ≡ false → selects_visa t ≡ true
    → code_rule f (field f code t) ≡ false
unfolding code_rule
code_other f t other visa = go (code_rule f (field f code t)) refl
  where
    go : (b : Bool) → code_rule f (field f code t) ≡ b → b ≡ false
    go false e = refl
    go true e = absurd (false≢true (sym other
        ∙ (sym (code_tells (row f).kind (get_or (field f code t) 0 0) (get_or (field f code t) 1 0) e)
        ∙ (code_there f t ∙ visa))))

fields_other : (f : Form) (t : List ℕ) → code_rule f (field f code t) ≡ false
    → in_order (field_check f t (span_of f t)) (parts f) ≡ refused (by 3) 0
unfolding in_order field_rows
fields_other f t e =
    ap (in_order (field_check f t (span_of f t))) (first f).before_all ∙ rw (e, (first f).at_start)

pub visa_elsewhere : (source : Source) (f : Form) (t : List ℕ) → form_of source t ≡ Some f → is_visa (row f).kind ≡ false
    → selects_visa t ≡ true → (read_text source t).outcome ≡ or_else (characters t) (refused (by 3) 0)
unfolding verdict_by
visa_elsewhere source f t told other visa =
    ap (λ (a : Answer). a.outcome) (read_as source f t told)
    ∙ (answered_outcome (verdict_by f t (span_of f t)) (record_by f t (span_of f t))
    ∙ rw (fields_other f t (code_other f t other visa)))
