-- DEMAND 2, the digit of a refusal 9 (document 02, 2026-07): it is the check of the characters that document 01 has its place run
-- over, it is one digit, and it is not what stands there; and every refusal 9 carries one.
use Prim.Native.Nat.{ℕ, ◌+◌, ◌≤◌, ◌<◌}
use mathlib.Core.Path.{◌≡◌, refl, ap, sym, ◌∙◌}
use mathlib.Core.Bool.{Bool, true, false}
use mathlib.Core.List.{List}
use mathlib.Core.Logic.{◌↔◌, ◌⊎◌, inl, inr}
use native.Mathlib.Nat.{mod-lt}
use native.Mathlib.Omega.{arith}
use borrow.Author.Rules.{rules}
use borrow.Author.Tests.{ne_eqb, eqb-false, ltb-true}
use lib.Dec.{eqb, lit<}
use lib.ListN.{get_or}
use Rattle.std.specs.Prelude.{Option, Some, None}
use Rattle.refusal.specs.Numbers.{Why, by, expecting, number_of}
use Rattle.refusal.specs.Calls.{of_fields, of_text, tells}
use Rattle.refusal.specs.Outcome.{refused, refused_unless}
use Rattle.refusal.proofs.Calls.{tells_within, plain_not_nine}
use Rattle.refusal.proofs.Each.{Each, each_passed, each_refused}
use Rattle.zone.specs.declared.form.Form.{Form}
use Rattle.zone.specs.declared.form.Source.{Source}
use Rattle.zone.specs.Alphabet.{is_filler, every}
use Rattle.zone.specs.Record.{blank}
use Rattle.zone.specs.Part.{Part, number_check, optional, birth, birth_check, expiry}
use Rattle.zone.specs.Part.{expiry_check, composite, personal, personal_check, same}
use Rattle.zone.specs.Form.{row, forms, form_of, start, start_in, width}
use Rattle.zone.specs.Form.{width_in, has, total, field, pieces, joined_cuts, covered}
use Rattle.zone.proofs.AllForms.{all_forms}
use Rattle.zone.proofs.Widths.{within, here_or_end}
use Rattle.zone.proofs.Parts.{apart}
use Rattle.zone.proofs.FormTold.{as_same}
use Rattle.digit.specs.Check.{sum_from, check_of, digit_of}
use Rattle.digit.proofs.Written.{fillers_sum}
use Rattle.text_digits.specs.declared.number.Span.{Span}
use Rattle.text_digits.specs.declared.number.Span.TheVariants.{Short, Long, Bad}
use Rattle.text_digits.specs.Number.{span_of, checked_by}
use Rattle.text_digits.specs.Digits.{digit_at, number_digit, further_digit}
use Rattle.text.specs.Order.{verdict_by}
use Rattle.text.specs.Read.{read_text, read_by, record_by}
use Rattle.text_digits.proofs.Numbers.{span_within}
use Rattle.text_theorems.specs.Ordered.{checks_of, FirstFailing}
use Rattle.text_theorems.specs.Expected.{covered_at, Expected}
use Rattle.text.proofs.EachCheck.{answered_outcome, each_foreign, each_verdict}
use Rattle.text_theorems.proofs.FirstFailing.{refused_exactly}

-- what a refusal of a text tells: 9 is told with the digit that was expected, and with that alone
abbrev pub Tells : Form → List ℕ → Why → ℕ → Type 0
Tells f t (by n) p = tells of_text (by n) ≡ true
Tells f t (expecting d) p = Expected f t d p

-- ---- what each check place runs over

record Covers (t : List ℕ) (f : Form) : Type 0 where
  of_birth : covered_at f t (start f birth_check) ≡ field f birth t
  of_expiry : covered_at f t (start f expiry_check) ≡ field f expiry t
  of_personal : covered_at f t (start f personal_check) ≡ field f personal t
  of_all : covered_at f t (start f composite) ≡ covered f t
  of_short : covered_at f t (start f number_check) ≡ checked_by f t (span_of f t)

covers : (f : Form) (t : List ℕ) → Covers t f
unfolding covered_at field covered joined_cuts pieces row forms start start_in width width_in
covers f t = all_forms (Covers t) (search rules) f

-- a place of the optional field is not where another part begins
elsewhere : (f : Form) (n : ℕ) → n < width f optional → (x : Part) → same x optional ≡ false
    → eqb (start f optional + n) (start f x) ≡ false
elsewhere f n h x other = ne_eqb (start f optional + n) (start f x) (λ e. go e (here_or_end f x) (apart f x optional other))
  where
    go : start f optional + n ≡ start f x → (has f x ≡ true) ⊎ ((width f x ≡ 0) × (start f x ≡ total f))
        → (start f x + width f x ≤ start f optional) ⊎ (start f optional + width f optional ≤ start f x) → ⊥
    go e (inl there) (inl ahead) = omega (arith, ltb-true 0 (width f x) there)
    go e (inl there) (inr behind) = omega arith
    go e (inr missing) side = omega (arith, missing.1, within f optional)

long_covered : (f : Form) (t : List ℕ) (n : ℕ) → n < width f optional
    → covered_at f t (start f optional + n) ≡ checked_by f t (span_of f t)
unfolding covered_at
long_covered f t n h =
    rw (
      elsewhere f n h birth_check refl,
      elsewhere f n h expiry_check refl,
      elsewhere f n h personal_check refl,
      elsewhere f n h composite refl,
    )

-- ---- the checks

expected_at : (f : Form) (t : List ℕ) (p : ℕ) (covers : List ℕ) → covers ≡ covered_at f t p
    → eqb (get_or t p 0) (digit_of covers) ≡ false → Expected f t (check_of covers) p
unfolding digit_of check_of
expected_at f t p covers same wrong = record {
  worked_out = ap check_of same;
  one_digit = omega (arith, mod-lt (sum_from 0 covers) (lit< {m = 0} {n = 10} tt));
  not_there = eqb-false (get_or t p 0) (digit_of covers) wrong;
}

tells_digit : (f : Form) (t : List ℕ) (p : ℕ) (covers : List ℕ) → covers ≡ covered_at f t p
    → Each (Tells f t) (digit_at t p covers)
unfolding digit_at
tells_digit f t p covers same = go (eqb (get_or t p 0) (digit_of covers)) refl
  where
    go : (b : Bool) → eqb (get_or t p 0) (digit_of covers) ≡ b
        → Each (Tells f t) (refused_unless b (expecting (check_of covers)) p)
    go true h = each_passed (Tells f t)
    go false h = each_refused (Tells f t) (expecting (check_of covers)) p (expected_at f t p covers same h)

tells_number : (f : Form) (t : List ℕ) (span : Span) → span_of f t ≡ span
    → Each (Tells f t) (number_digit f t span) × Each (Tells f t) (further_digit f t span)
unfolding number_digit further_digit
tells_number f t Short e = (
  tells_digit f t (start f number_check) (checked_by f t Short) (ap (checked_by f t) (sym e) ∙ sym (covers f t).of_short),
  each_passed (Tells f t),
)
tells_number f t (Long n) e = (
  each_passed (Tells f t),
  tells_digit f t (start f optional + n) (checked_by f t (Long n))
      (ap (checked_by f t) (sym e) ∙ sym (long_covered f t n (span_within f t n e))),
)
tells_number f t Bad e = (each_passed (Tells f t), each_passed (Tells f t))

tells_verdict : (f : Form) (t : List ℕ) → Each (Tells f t) (verdict_by f t (span_of f t))
tells_verdict f t =
    let numbers = tells_number f t (span_of f t) refl in
    each_verdict (Tells f t) f t (span_of f t) (λ n x h. tells_within of_fields of_text refl (by n) h)
    (each_foreign (Tells f t) t refl)
    (record {
      of_number = numbers.0;
      of_further = numbers.1;
      of_birth = tells_digit f t (start f birth_check) (field f birth t) (sym (covers f t).of_birth);
      of_expiry = tells_digit f t (start f expiry_check) (field f expiry t) (sym (covers f t).of_expiry);
      of_personal = tells_digit f t (start f personal_check) (field f personal t) (sym (covers f t).of_personal);
      of_all = tells_digit f t (start f composite) (covered f t) (sym (covers f t).of_all);
    })

-- ---- the text

-- every refusal of a text of a form tells what it should; that of another length is 1
pub refusal_tells : (source : Source) (t : List ℕ) (n : Why) (p : ℕ) → (read_text source t).outcome ≡ refused n p
    → (n ≡ by 1) ⊎ ((f : Form) × (form_of source t ≡ Some f) × Tells f t n p)
unfolding read_text read_by
refusal_tells source t n p e = go (form_of source t) refl e
  where
    go : (told : Option Form) → form_of source t ≡ told → (read_by told t).outcome ≡ refused n p
        → (n ≡ by 1) ⊎ ((f : Form) × (form_of source t ≡ Some f) × Tells f t n p)
    go None h r = inl (let q : refused (by 1) 0 ≡ refused n p = sym (answered_outcome (refused (by 1) 0) blank) ∙ r in cc)
    go (Some f) h r = inr (
      f,
      h,
      tells_verdict f t n p (sym (answered_outcome (verdict_by f t (span_of f t)) (record_by f t (span_of f t))) ∙ r),
    )

-- so it has one of a text's numbers
pub text_numbered : (source : Source) (t : List ℕ) → Each (λ why p. tells of_text why ≡ true) (read_text source t).outcome
text_numbered source t (expecting d) p e = refl
text_numbered source t (by n) p e = go (refusal_tells source t (by n) p e)
  where
    go : (by n ≡ by 1) ⊎ ((f : Form) × (form_of source t ≡ Some f) × (tells of_text (by n) ≡ true)) → tells of_text (by n) ≡ true
    go (inl q) = ap (tells of_text) q
    go (inr q) = q.2

-- a refusal 9 carries a digit
pub nine_tells : (source : Source) (t : List ℕ) (n : Why) (p : ℕ) → (read_text source t).outcome ≡ refused n p
    → number_of n ≡ 9 → (d : ℕ) × (n ≡ expecting d)
nine_tells source t (expecting d) p e h = (d, refl)
nine_tells source t (by n) p e h = absurd (plain_not_nine of_text n (text_numbered source t (by n) p e) h)

-- and the digit is the one expected at its place
pub digit_told : (source : Source) (t : List ℕ) (d p : ℕ) → (read_text source t).outcome ≡ refused (expecting d) p
    → (f : Form) × (form_of source t ≡ Some f) × Expected f t d p
digit_told source t d p e = go (refusal_tells source t (expecting d) p e)
  where
    go : (expecting d ≡ by 1) ⊎ ((f : Form) × (form_of source t ≡ Some f) × Expected f t d p)
        → (f : Form) × (form_of source t ≡ Some f) × Expected f t d p
    go (inl q) = absurd (let z : ◌≡◌ {A = ℕ} 0 1 = cc in omega arith)
    go (inr q) = q

-- 9 at p with digit d: exactly where 9 at p is the first failing check, and d the check of what document 01 has it run over
pub expected_exactly : (source : Source) (t : List ℕ) (d p : ℕ)
    → ((read_text source t).outcome ≡ refused (expecting d) p)
    ↔ ((n : Why) × FirstFailing (checks_of source t) n p × (number_of n ≡ 9) × (f : Form) × (form_of source t ≡ Some f) ×
    (d ≡ check_of (covered_at f t p)))
expected_exactly source t d p = (
  λ e.
      let told = digit_told source t d p e in
      (expecting d, (refused_exactly source t (expecting d) p).0 e, refl, told.0, told.1, told.2.worked_out),
  λ h.
      let e = (refused_exactly source t h.0 p).1 h.1 in
      let nine = nine_tells source t h.0 p e h.2 in
      let k = nine.0 in
      let f : (read_text source t).outcome ≡ refused (expecting k) p = e ∙ ap (λ (n : Why). refused n p) nine.1 in
      let told = digit_told source t k p f in
      let one : told.0 ≡ h.3 = as_same told.0 h.3 (sym told.1 ∙ h.4) in
      let same : k ≡ d = told.2.worked_out ∙ ap (λ (g : Form). check_of (covered_at g t p)) one ∙ sym h.5 in
      f ∙ ap (λ (m : ℕ). refused (expecting m) p) same,
)

-- over an empty personal number the expected digit is 0, which document 02, 2026-02, lets `<` stand for
pub empty_expects_zero : (source : Source) (f : Form) (t : List ℕ) (d : ℕ) → form_of source t ≡ Some f
    → every is_filler (field f personal t) ≡ true
    → (read_text source t).outcome ≡ refused (expecting d) (start f personal_check) → d ≡ 0
unfolding check_of
empty_expects_zero source f t d e none r =
    let told = digit_told source t d (start f personal_check) r in
    let one : told.0 ≡ f = as_same told.0 f (sym told.1 ∙ e) in
    told.2.worked_out
    ∙ (ap (λ (g : Form). check_of (covered_at g t (start f personal_check))) one
    ∙ (ap check_of (covers f t).of_personal ∙ rw (fillers_sum 0 (field f personal t) none)))
