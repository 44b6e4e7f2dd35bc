-- DEMAND 2, acceptance: a text is accepted exactly when it keeps every rule of a form that may stand there.
use Prim.Native.Nat.{ℕ, ◌+◌, ◌-◌, ◌≤◌, ◌<◌}
use mathlib.Core.Path.{◌≡◌, refl, ap, sym, ◌∙◌}
use mathlib.Core.Logic.{◌↔◌}
use mathlib.Core.Bool.{Bool, true, false, not, ◌&&◌, ◌||◌}
use mathlib.Core.List.{List, ◌++◌}
use lib.ListN.{length, take, get_or}
use native.Mathlib.Nat.{add-zero}
use native.Mathlib.Omega.{arith}
use borrow.Author.Tests.{eqb-true, eq-eqb}
use lib.Dec.{eqb}
use Rattle.std.specs.Prelude.{Option, Some, None}
use Rattle.lent.proofs.Bools.{and_both, not_true}
use Rattle.refusal.specs.Numbers.{by}
use Rattle.refusal.specs.Outcome.{passed, refused, or_else}
use Rattle.zone.specs.declared.form.Form.{Form}
use Rattle.zone.specs.declared.form.Source.{Source}
use Rattle.zone.specs.Alphabet.{is_character, is_filler, is_foreign, first_foreign}
use Rattle.zone.proofs.First.{first_none, none_first}
use Rattle.zone.specs.Part.{Part, code, state, number, number_check, optional, birth, birth_check, sex, expiry, expiry_check}
use Rattle.zone.specs.Part.{nationality, composite, name, personal_check}
use Rattle.zone.proofs.Parts.{in_rows_lem, ◌and◌, all_said}
use Rattle.zone.specs.Form.{row, is_visa, is_alone, is_visa_code, selects_visa, may_stand}
use Rattle.zone.specs.Form.{form_of, parts, start, width, has, total}
use Rattle.zone.specs.Form.{field, covered}
use Rattle.field.proofs.Characters.{code_tells}
use Rattle.text_theorems.proofs.CodeTold.{code_there}
use Rattle.zone.specs.Record.{plain, is_plain}
use Rattle.zone.proofs.Widths.{has_among, fixed}
use Rattle.zone.proofs.Holding.{each_plain}
use Rattle.zone.proofs.Fields.{in_field}
use Rattle.digit.specs.Check.{digit_of}
use Rattle.field.specs.Code.{code_rule}
use Rattle.field.specs.Letters.{state_rule, sex_rule, name_rule}
use Rattle.field.specs.Date.{birth_rule, expiry_rule}
use Rattle.field.specs.Rules.{rule_rows, rule}
use Rattle.text_digits.specs.declared.number.Span.{Span}
use Rattle.text_digits.specs.Number.{is_long, span_of, span_rule, number_rule, checked_by}
use Rattle.text_digits.specs.Digits.{number_digit, further_digit, digit_rows, digit_check, in_order}
use Rattle.text.specs.Order.{characters, field_rows, field_check, verdict_by}
use Rattle.text.specs.Read.{read_text, read_by, answered, record_by}
use Rattle.text_theorems.specs.Accepted.{Keeps, filler_at}
use Rattle.text.proofs.EachCheck.{answered_outcome}
use Rattle.zone.proofs.FormTold.{told_by_lem, by_told}
use Rattle.text_theorems.proofs.Common.{common, plain_has}
use Rattle.refusal.proofs.Outcomes.{refused_not_passed, both_passed, unless_kept, kept_unless}
use Rattle.text_theorems.proofs.PartByPart.{digit_kept, kept_digit, personal_kept, kept_personal, walk_each, each_walk}
use Rattle.text_theorems.proofs.NumberSpan.{short_span, long_span, span_ends, long_has}
use Rattle.text_theorems.proofs.CompositeKept.{composite_kept}

-- a test that was not passed
not_false : (b : Bool) → not b ≡ false → b ≡ true
not_false true e = refl
not_false false e = sym e

-- the sex as a field of one character
sex_there : (f : Form) (t : List ℕ) → get_or (field f sex t) 0 0 ≡ get_or t (start f sex) 0
sex_there f t =
    sym (in_field f sex t 0 (omega (arith, (fixed f).sex_width))) ∙ ap (λ i. get_or t i 0) (add-zero (start f sex))

-- ---- from an accepted text to its rules

module _ (f : Form) (t : List ℕ) (told : length t ≡ total f) (accepted : verdict_by f t (span_of f t) ≡ passed) where
  span : Span
  span = span_of f t

  stages : (characters t ≡ passed) × (in_order (field_check f t span) (parts f) ≡ passed)
      × (in_order (digit_check f t span) (parts f) ≡ passed)
  unfolding verdict_by span
  stages =
      let one = both_passed (characters t)
      (or_else (in_order (field_check f t span) (parts f)) (in_order (digit_check f t span) (parts f))) accepted in
      let two = both_passed (in_order (field_check f t span) (parts f)) (in_order (digit_check f t span) (parts f)) one.1 in
      (one.0, two.0, two.1)

  field_passed : (x : Part) → has f x ≡ true → field_check f t span x ≡ passed
  field_passed x h = walk_each (field_check f t span) (parts f) stages.1 x (rw (has_among f x) at h)

  digit_passed : (x : Part) → has f x ≡ true → digit_check f t span x ≡ passed
  digit_passed x h = walk_each (digit_check f t span) (parts f) stages.2 x (rw (has_among f x) at h)

  number_kept : (is_filler (get_or (field f number t) 0 0) ≡ false) × (span_rule span ≡ true)
  unfolding field_rows number_rule
  number_kept =
      let both = and_both (not (is_filler (get_or (field f number t) 0 0))) (span_rule span)
      (unless_kept (number_rule f t span) 5 (start f number) (field_passed number (common f).has_number)) in
      (not_true (is_filler (get_or (field f number t) 0 0)) both.0, both.1)

  ends : is_long f t ≡ true → (2 ≤ filler_at f t) × (filler_at f t < width f optional)
  unfolding span
  ends long = span_ends f t number_kept.1 long

  short_kept : is_long f t ≡ false → get_or t (start f number_check) 0 ≡ digit_of (field f number t)
  unfolding span digit_rows number_digit checked_by
  short_kept short =
      digit_kept t (start f number_check) (field f number t)
      (rw (short_span f t short) at (digit_passed number_check (common f).has_number_check))

  long_kept : is_long f t ≡ true
      → get_or t (start f optional + (filler_at f t - 1)) 0
      ≡ digit_of (field f number t ++ take (filler_at f t - 1) (field f optional t))
  unfolding span digit_rows further_digit checked_by
  long_kept long =
      digit_kept t (start f optional + (filler_at f t - 1)) (field f number t ++ take (filler_at f t - 1) (field f optional t))
      (rw (long_span f t long (ends long).0 (ends long).1) at (digit_passed optional (long_has f t long)))

  characters_kept : (i : ℕ) → i < length t → is_character (get_or t i 0) ≡ true
  unfolding characters first_foreign is_foreign
  characters_kept i h =
      not_false (is_character (get_or t i 0))
      (first_none is_foreign t (eqb-true (first_foreign t) (length t)
      (unless_kept (eqb (first_foreign t) (length t)) 2 (first_foreign t) stages.0)) i h)

  rules_kept : (x : Part) → is_plain x ≡ true → rule f x (field f x t) ≡ true
  unfolding field_rows rule_rows
  rules_kept x p =
      each_plain (λ y n. field_check f t span y ≡ passed → rule f y (field f y t) ≡ true)
      (unless_kept (code_rule f (field f code t)) 3 (start f code))
      (unless_kept (state_rule (field f state t)) 4 (start f state))
      (unless_kept (state_rule (field f nationality t)) 4 (start f nationality))
      (unless_kept (birth_rule (field f birth t)) 6 (start f birth))
      (λ e. ap sex_rule (sex_there f t) ∙ unless_kept (sex_rule (get_or t (start f sex) 0)) 7 (start f sex) e)
      (unless_kept (expiry_rule (field f expiry t)) 6 (start f expiry))
      x p (field_passed x (plain_has f x p))

  pub keeps : Keeps f t
  unfolding field_rows digit_rows
  keeps = record {
    size = told;
    alphabet = characters_kept;
    plain_kept = rules_kept;
    number_begins = number_kept.0;
    number_ends = ends;
    name_kept = unless_kept (name_rule (field f name t)) 8 (start f name) (field_passed name (common f).has_name);
    number_digit = short_kept;
    long_digit = long_kept;
    birth_digit = digit_kept t (start f birth_check) (field f birth t) (digit_passed birth_check (common f).has_birth_check);
    expiry_digit = digit_kept t (start f expiry_check) (field f expiry t) (digit_passed expiry_check (common f).has_expiry_check);
    personal_digit = λ h. personal_kept f t (digit_passed personal_check h);
    composite_digit = λ h. composite_kept f t span (digit_passed composite h);
  }

-- ---- and back

module _ (f : Form) (t : List ℕ) (k : Keeps f t) where
  -- short or long, the number's own digit is right at the one place where it stands
  number_right : (b : Bool) → is_long f t ≡ b
      → (span_rule (span_of f t) ≡ true) × (number_digit f t (span_of f t) ≡ passed) × (further_digit f t (span_of f t) ≡ passed)
  unfolding span_rule number_digit further_digit checked_by
  number_right false e = rw (short_span f t e)
      (refl, kept_digit t (start f number_check) (field f number t) (k.number_digit e), refl)
  number_right true e =
      rw (long_span f t e (k.number_ends e).0 (k.number_ends e).1) (
        refl,
        refl,
        kept_digit t (start f optional + (filler_at f t - 1)) (field f number t ++ take (filler_at f t - 1) (field f optional t))
            (k.long_digit e),
      )

  characters_pass : characters t ≡ passed
  unfolding characters first_foreign is_foreign
  characters_pass =
      kept_unless (eqb (first_foreign t) (length t)) 2 (first_foreign t)
      (eq-eqb (first_foreign t) (length t) (none_first is_foreign t (λ i h. ap not (k.alphabet i h))))

  fields_pass : (x : Part) → has f x ≡ true → field_check f t (span_of f t) x ≡ passed
  unfolding field_rows number_rule rule_rows plain
  fields_pass = in_rows_lem (λ x o. has f x ≡ true → o ≡ passed) passed (field_rows f t (span_of f t)) (λ x h. refl)
      ((λ h. kept_unless _ 3 (start f code) (k.plain_kept code refl))
      and (λ h. kept_unless _ 4 (start f state) (k.plain_kept state refl))
      and (λ h. kept_unless _ 4 (start f nationality) (k.plain_kept nationality refl))
      and (λ h. rw (k.number_begins, (number_right (is_long f t) refl).0))
      and (λ h. kept_unless _ 6 (start f birth) (k.plain_kept birth refl))
      and (λ h. kept_unless _ 6 (start f expiry) (k.plain_kept expiry refl))
      and (λ h. kept_unless _ 7 (start f sex) (ap sex_rule (sym (sex_there f t)) ∙ k.plain_kept sex refl))
      and (λ h. kept_unless _ 8 (start f name) k.name_kept)
      and all_said)

  digits_pass : (x : Part) → has f x ≡ true → digit_check f t (span_of f t) x ≡ passed
  unfolding digit_rows
  digits_pass = in_rows_lem (λ x o. has f x ≡ true → o ≡ passed) passed (digit_rows f t (span_of f t)) (λ x h. refl)
      ((λ h. (number_right (is_long f t) refl).1)
      and (λ h. (number_right (is_long f t) refl).2)
      and (λ h. kept_digit t (start f birth_check) (field f birth t) k.birth_digit)
      and (λ h. kept_digit t (start f expiry_check) (field f expiry t) k.expiry_digit)
      and (λ h. kept_personal f t (k.personal_digit h))
      and (λ h. kept_digit t (start f composite) (covered f t) (k.composite_digit h))
      and all_said)

  pub passes : verdict_by f t (span_of f t) ≡ passed
  unfolding verdict_by
  passes =
      rw (
        characters_pass,
        each_walk (field_check f t (span_of f t)) (parts f) (λ x m. fields_pass x (has_among f x ∙ m)),
        each_walk (digit_check f t (span_of f t)) (parts f) (λ x m. digits_pass x (has_among f x ∙ m)),
      )

-- a text that is told as a form is read as that form
pub read_as : (source : Source) (f : Form) (t : List ℕ) → form_of source t ≡ Some f
    → read_text source t ≡ answered (verdict_by f t (span_of f t)) (record_by f t (span_of f t))
unfolding read_text read_by
read_as source f t e = rw e

-- one that keeps the rules of a form that may stand there is told as that form, since its code tells whether it is a visa's
pub kept_told : (source : Source) (f : Form) (t : List ℕ) → may_stand source f ≡ true → Keeps f t → form_of source t ≡ Some f
unfolding may_stand rule_rows code_rule plain
kept_told source f t may k =
    told_by_lem source f t (go (is_visa (row f).kind) (is_alone source) may (sym (code_there f t) ∙ tells)) k.size
  where
    tells : is_visa_code (get_or (field f code t) 0 0) (get_or (field f code t) 1 0) ≡ is_visa (row f).kind
    tells = code_tells (row f).kind (get_or (field f code t) 0 0) (get_or (field f code t) 1 0) (k.plain_kept code refl)

    go : (visa alone : Bool) → not visa || alone ≡ true → selects_visa t ≡ visa → alone && selects_visa t ≡ visa
    go true alone h e = rw (h, e)
    go false true h e = e
    go false false h e = refl

accepted_by : (told : Option Form) (t : List ℕ) → (read_by told t).outcome ≡ passed
    → (f : Form) × (told ≡ Some f) × (verdict_by f t (span_of f t) ≡ passed)
unfolding read_by
accepted_by None t e = absurd (refused_not_passed (sym (answered_outcome (refused (by 1) 0) _) ∙ e))
accepted_by (Some f) t e = (f, refl, sym (answered_outcome (verdict_by f t (span_of f t)) (record_by f t (span_of f t))) ∙ e)

-- the form of an accepted text, and that its checks passed
pub accepted_form : (source : Source) (t : List ℕ) → (read_text source t).outcome ≡ passed
    → (f : Form) × (form_of source t ≡ Some f) × (verdict_by f t (span_of f t) ≡ passed)
unfolding read_text
accepted_form source t e = accepted_by (form_of source t) t e

pub accepted_exactly : (source : Source) (t : List ℕ)
    → ((read_text source t).outcome ≡ passed) ↔ ((f : Form) × (may_stand source f ≡ true) × Keeps f t)
accepted_exactly source t = (forth, λ w. back w.0 w.1 w.2)
  where
    forth : (read_text source t).outcome ≡ passed → (f : Form) × (may_stand source f ≡ true) × Keeps f t
    forth e =
        let w = accepted_form source t e in
        let told = by_told source w.0 t w.1 in
        (w.0, told.0, keeps w.0 t told.1 w.2)

    back : (f : Form) → may_stand source f ≡ true → Keeps f t → (read_text source t).outcome ≡ passed
    back f may k = rw (read_as source f t (kept_told source f t may k))
        (answered_outcome (verdict_by f t (span_of f t)) (record_by f t (span_of f t)) ∙ passes f t k)
