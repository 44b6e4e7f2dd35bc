-- A text's refusal stands in the text, or at its end: DEMAND 1's place, and a number of the machine where the text is held.
use Rattle.std.specs.Prelude.{Option, Some, None}
use Prim.Native.Nat.{ℕ, ◌+◌, ◌≤◌}
use mathlib.Core.Path.{◌≡◌, refl}
use mathlib.Core.List.{List}
use native.Mathlib.Omega.{arith}
use lib.Dec.{eqb}
use lib.ListN.{length, get_or}
use Rattle.refusal.specs.Numbers.{Why, by, expecting}
use Rattle.refusal.specs.Outcome.{refused}
use Rattle.refusal.proofs.Each.{Each, each_passed, each_refused, each_rule}
use Rattle.zone.specs.declared.form.Form.{Form}
use Rattle.zone.specs.declared.form.Source.{Source}
use Rattle.zone.specs.Alphabet.{first_foreign, is_foreign}
use Rattle.zone.specs.Record.{blank}
use Rattle.zone.specs.Part.{Part, number_check, optional, birth_check, expiry_check, composite, personal_check}
use Rattle.zone.specs.Form.{form_of, start, total}
use Rattle.zone.proofs.First.{first_le}
use Rattle.zone.proofs.FormTold.{by_told}
use Rattle.zone.proofs.Widths.{within}
use Rattle.digit.specs.Check.{check_of, digit_of}
use Rattle.text_digits.specs.declared.number.Span.{Span}
use Rattle.text_digits.specs.declared.number.Span.TheVariants.{Short, Long, Bad}
use Rattle.text_digits.specs.Number.{span_of, checked_by}
use Rattle.text_digits.specs.Digits.{digit_at, number_digit, further_digit}
use Rattle.text_digits.proofs.EachDigit.{EachDigit}
use Rattle.text_digits.proofs.Numbers.{span_within}
use Rattle.text.specs.Order.{verdict_by}
use Rattle.text.specs.Read.{read_text, read_by, record_by}
use Rattle.text.proofs.EachCheck.{each_foreign, each_verdict, each_answered}

-- a place that is no further than the end
abbrev In : List ℕ → Why → ℕ → Type 0
In t n p = p ≤ length t

module _ (f : Form) (t : List ℕ) (long : length t ≡ total f) where
  start_in_lem : (x : Part) → start f x ≤ length t
  start_in_lem x = omega (arith, within f x)

  place_in : (p : ℕ) (covers : List ℕ) → p ≤ length t → Each (In t) (digit_at t p covers)
  unfolding digit_at
  place_in p covers h = each_rule (In t) (eqb (get_or t p 0) (digit_of covers)) (expecting (check_of covers)) p h

  digit_in : (x : Part) (covers : List ℕ) → Each (In t) (digit_at t (start f x) covers)
  digit_in x covers = place_in (start f x) covers (start_in_lem x)

  number_in : (span : Span) → span_of f t ≡ span → Each (In t) (number_digit f t span) × Each (In t) (further_digit f t span)
  unfolding number_digit further_digit
  number_in Short e = (digit_in number_check (checked_by f t Short), each_passed (In t))
  number_in (Long n) e = (
    each_passed (In t),
    place_in (start f optional + n) (checked_by f t (Long n)) (omega (arith, span_within f t n e, within f optional)),
  )
  number_in Bad e = (each_passed (In t), each_passed (In t))

  digits_in : EachDigit (In t) f t (span_of f t)
  digits_in = record {
    of_number = (number_in (span_of f t) refl).0;
    of_further = (number_in (span_of f t) refl).1;
    of_birth = digit_in birth_check _;
    of_expiry = digit_in expiry_check _;
    of_personal = digit_in personal_check _;
    of_all = digit_in composite _;
  }

  verdict_in : Each (In t) (verdict_by f t (span_of f t))
  unfolding first_foreign
  verdict_in = each_verdict (In t) f t (span_of f t) (λ n x h. start_in_lem x)
      (each_foreign (In t) t (first_le is_foreign t)) digits_in

pub text_within : (source : Source) (t : List ℕ) → Each (λ n p. p ≤ length t) (read_text source t).outcome
unfolding read_text read_by
text_within source t = go (form_of source t) refl
  where
    go : (told : Option Form) → form_of source t ≡ told → Each (In t) (read_by told t).outcome
    go None e = each_answered (In t) (refused (by 1) 0) blank (each_refused (In t) (by 1) 0 (omega arith))
    go (Some f) e =
        each_answered (In t) (verdict_by f t (span_of f t)) (record_by f t (span_of f t))
        (verdict_in f t (by_told source f t e).1)
