-- What every refusal of a text has: what that of each check has.
use Prim.Native.Nat.{ℕ}
use mathlib.Core.Path.{◌≡◌, refl, sym, ◌∙◌}
use mathlib.Core.Bool.{true}
use mathlib.Core.List.{List}
use lib.Dec.{eqb}
use lib.ListN.{length, get_or}
use Rattle.refusal.specs.Numbers.{Why, by}
use Rattle.refusal.specs.Calls.{of_fields, tells}
use Rattle.refusal.specs.Outcome.{Outcome, passed, refused}
use Rattle.refusal.proofs.Each.{Each, each_passed, each_else, each_unless}
use Rattle.zone.specs.declared.form.Form.{Form}
use Rattle.zone.specs.declared.record.Record.{Record}
use Rattle.zone.specs.Alphabet.{first_foreign}
use Rattle.zone.specs.Part.{Part, code, state, number, birth, sex, expiry, nationality, name}
use Rattle.zone.proofs.Parts.{in_rows_lem, ◌and◌, all_said}
use Rattle.zone.specs.Form.{parts, start, field}
use Rattle.field.specs.Code.{code_rule}
use Rattle.field.specs.Letters.{state_rule, sex_rule, name_rule}
use Rattle.field.specs.Date.{birth_rule, expiry_rule}
use Rattle.text_digits.specs.declared.number.Span.{Span}
use Rattle.text_digits.specs.Number.{number_rule}
use Rattle.text_digits.specs.Digits.{in_order}
use Rattle.text_digits.proofs.EachDigit.{EachDigit, each_digit, each_order}
use Rattle.text.specs.Order.{characters, field_rows, field_check, verdict_by}
use Rattle.text.specs.Read.{answered}

pub answered_outcome : (o : Outcome) (r : Record) → (answered o r).outcome ≡ o
unfolding answered
answered_outcome passed r = refl
answered_outcome (refused n p) r = refl

pub each_foreign : (P : Why → ℕ → Type 0) (t : List ℕ) → P (by 2) (first_foreign t) → Each P (characters t)
unfolding characters
each_foreign P t h = each_unless P (eqb (first_foreign t) (length t)) 2 (first_foreign t) h

module _ (P : Why → ℕ → Type 0) (f : Form) (t : List ℕ) (span : Span)
    (plain : (n : ℕ) (x : Part) → tells of_fields (by n) ≡ true → P (by n) (start f x)) where
  -- a field is refused by its number at its start
  each_field : (x : Part) → Each P (field_check f t span x)
  unfolding field_rows
  each_field = in_rows_lem (λ x o. Each P o) passed (field_rows f t span) (λ x. each_passed P)
      (each_unless P (code_rule f (field f code t)) 3 (start f code) (plain 3 code refl)
      and each_unless P (state_rule (field f state t)) 4 (start f state) (plain 4 state refl)
      and each_unless P (state_rule (field f nationality t)) 4 (start f nationality) (plain 4 nationality refl)
      and each_unless P (number_rule f t span) 5 (start f number) (plain 5 number refl)
      and each_unless P (birth_rule (field f birth t)) 6 (start f birth) (plain 6 birth refl)
      and each_unless P (expiry_rule (field f expiry t)) 6 (start f expiry) (plain 6 expiry refl)
      and each_unless P (sex_rule (get_or t (start f sex) 0)) 7 (start f sex) (plain 7 sex refl)
      and each_unless P (name_rule (field f name t)) 8 (start f name) (plain 8 name refl)
      and all_said)

  pub each_verdict : Each P (characters t) → EachDigit P f t span → Each P (verdict_by f t span)
  unfolding verdict_by
  each_verdict foreign digits =
      each_else P (characters t) _ foreign
      (each_else P (in_order (field_check f t span) (parts f)) _ (each_order P _ each_field (parts f))
      (each_order P _ (each_digit P f t span digits) (parts f)))

-- an answer's refusal is that of its outcome
pub each_answered : (P : Why → ℕ → Type 0) (o : Outcome) (r : Record) → Each P o → Each P (answered o r).outcome
each_answered P o r h n p e = h n p (sym (answered_outcome o r) ∙ e)
