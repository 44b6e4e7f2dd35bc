-- DEMAND 2, the answer: reading a text answers `refused n p` exactly where n at p is the first failing check in the paper's
-- order.
use Prim.Native.Nat.{ℕ, ◌+◌, ◌<◌}
use mathlib.Core.Path.{◌≡◌, refl, ap, sym, ◌∙◌}
use mathlib.Core.Logic.{◌↔◌}
use mathlib.Core.List.{List, map}
use mathlib.Core.Bool.{true}
use native.Mathlib.Omega.{arith}
use borrow.Author.Rules.{rules}
use Rattle.std.specs.Prelude.{Option, Some, None}
use Rattle.refusal.specs.Numbers.{Why, by}
use Rattle.refusal.specs.Outcome.{Outcome, passed, refused, or_else}
use Rattle.zone.specs.declared.form.Source.{Source}
use Rattle.zone.specs.Part.{optional}
use Rattle.zone.specs.Record.{blank}
use Rattle.zone.specs.declared.form.Form.{Form}
use Rattle.zone.specs.Form.{row, forms, form_of, part_of, parts, start, start_in, width}
use Rattle.zone.proofs.AllForms.{all_forms}
use Rattle.text_digits.specs.declared.number.Span.TheVariants.{Long}
use Rattle.text_digits.specs.Number.{span_of}
use Rattle.text_digits.proofs.Numbers.{span_within}
use Rattle.text.specs.Order.{characters, verdict_by}
use Rattle.text.specs.Read.{read_text, read_by, answered, record_by}
use Rattle.zone.specs.declared.record.Record.{Record}
use Rattle.text.proofs.EachCheck.{answered_outcome}
use Rattle.text_theorems.specs.Ordered.{checks_by, checks_of, FirstFailing, is_rising}
use Rattle.text_theorems.proofs.FirstOf.{never, first_of, first_failing, failing_first}
use Rattle.text_theorems.proofs.TextRows.{rows_first}

answered_blank : (o : Outcome) (r : Record) (n : Why) (p : ℕ) → (answered o r).outcome ≡ refused n p → (answered o r).kept ≡ blank
unfolding answered
answered_blank passed r n p e = absurd (never n p e)
answered_blank (refused m q) r n p e = refl

read_first_by : (told : Option Form) (t : List ℕ) → (read_by told t).outcome ≡ first_of (checks_by told t)
unfolding read_by checks_by verdict_by first_of characters
read_first_by None t = answered_outcome (refused (by 1) 0) _
read_first_by (Some f) t =
    answered_outcome (verdict_by f t (span_of f t)) (record_by f t (span_of f t)) ∙ ap (or_else (characters t)) (rows_first f t)

pub read_first : (source : Source) (t : List ℕ) → (read_text source t).outcome ≡ first_of (checks_of source t)
unfolding read_text checks_of
read_first source t = read_first_by (form_of source t) t

-- every refusal gives the blank record
pub refused_blank : (source : Source) (t : List ℕ) (n : Why) (p : ℕ) → (read_text source t).outcome ≡ refused n p
    → (read_text source t).kept ≡ blank
unfolding read_text read_by
refused_blank source t n p e = by_told (form_of source t) e
  where
    by_told : (told : Option Form) → (read_by told t).outcome ≡ refused n p → (read_by told t).kept ≡ blank
    by_told None h = answered_blank (refused (by 1) 0) blank n p h
    by_told (Some f) h = answered_blank (verdict_by f t (span_of f t)) (record_by f t (span_of f t)) n p h

pub refused_exactly : (source : Source) (t : List ℕ) (n : Why) (p : ℕ)
    → ((read_text source t).outcome ≡ refused n p) ↔ FirstFailing (checks_of source t) n p
refused_exactly source t n p = (
  λ e. first_failing (checks_of source t) n p (sym (read_first source t) ∙ e),
  λ h. read_first source t ∙ failing_first (checks_of source t) n p h,
)

-- the order is by place: in the walk over a form's parts each part starts behind the one before
pub in_text_order : (f : Form) → is_rising (map (start f) (parts f)) ≡ true
unfolding is_rising parts part_of row forms start start_in
in_text_order = all_forms (λ f. is_rising (map (start f) (parts f)) ≡ true) (search rules)

-- and a long number's digit stands within the optional field, which the walk looks at in its stead
pub digit_within : (f : Form) (t : List ℕ) (n : ℕ) → span_of f t ≡ Long n
    → start f optional + n < start f optional + width f optional
digit_within f t n e = omega (arith, span_within f t n e)
