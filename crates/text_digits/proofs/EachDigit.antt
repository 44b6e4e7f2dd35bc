-- What every refusal of the check digits has: what that of each of them has.
use Prim.Native.Nat.{ℕ, ◌+◌}
use mathlib.Core.List.{List, [], ◌∷◌}
use lib.Dec.{eqb}
use lib.ListN.{get_or}
use Rattle.lent.proofs.Bools.{either_way}
use Rattle.refusal.specs.Numbers.{Why, expecting}
use Rattle.refusal.specs.Outcome.{Outcome, passed}
use Rattle.refusal.proofs.Each.{Each, each_passed, each_else, each_rule}
use Rattle.zone.specs.declared.form.Form.{Form}
use Rattle.zone.specs.Part.{Part, number_check, optional, birth, birth_check, expiry, expiry_check, composite, personal}
use Rattle.zone.specs.Part.{personal_check}
use Rattle.zone.proofs.Parts.{in_rows_lem, ◌and◌, all_said}
use Rattle.zone.specs.Form.{start, field, covered}
use Rattle.digit.specs.Check.{check_of, digit_of}
use Rattle.text_digits.specs.declared.number.Span.{Span}
use Rattle.text_digits.specs.declared.number.Span.TheVariants.{Short, Long, Bad}
use Rattle.text_digits.specs.Number.{checked_by}
use Rattle.text_digits.specs.Digits.{digit_at, number_digit, further_digit, is_left_out, personal_digit, digit_rows, digit_check}
use Rattle.text_digits.specs.Digits.{in_order}

-- the digits that are looked at
pub record EachDigit (P : Why → ℕ → Type 0) (f : Form) (t : List ℕ) (span : Span) : Type 0 where
  pub of_number : Each P (number_digit f t span)
  pub of_further : Each P (further_digit f t span)
  pub of_birth : Each P (digit_at t (start f birth_check) (field f birth t))
  pub of_expiry : Each P (digit_at t (start f expiry_check) (field f expiry t))
  pub of_personal : Each P (digit_at t (start f personal_check) (field f personal t))
  pub of_all : Each P (digit_at t (start f composite) (covered f t))

module _ (P : Why → ℕ → Type 0) where
  pub each_digit : (f : Form) (t : List ℕ) (span : Span) → EachDigit P f t span → (x : Part) → Each P (digit_check f t span x)
  unfolding digit_rows personal_digit
  each_digit f t span h = in_rows_lem (λ x o. Each P o) passed (digit_rows f t span) (λ x. each_passed P) (h.of_number
      and h.of_further
      and h.of_birth
      and h.of_expiry
      and either_way (Each P) (is_left_out f t) passed _ (each_passed P) h.of_personal
      and h.of_all
      and all_said)

  pub each_order : (check : Part → Outcome) → ((x : Part) → Each P (check x)) → (xs : List Part) → Each P (in_order check xs)
  unfolding in_order
  each_order check each [] = each_passed P
  each_order check each (x ∷ xs) = each_else P (check x) (in_order check xs) (each x) (each_order check each xs)

  -- what every refusal with a digit has, each of them has
  pub each_expecting : ((d p : ℕ) → P (expecting d) p) → (f : Form) (t : List ℕ) (span : Span) → EachDigit P f t span
  unfolding digit_at number_digit further_digit
  each_expecting h f t span = record {
    of_number = (number span).0;
    of_further = (number span).1;
    of_birth = one (start f birth_check) (field f birth t);
    of_expiry = one (start f expiry_check) (field f expiry t);
    of_personal = one (start f personal_check) (field f personal t);
    of_all = one (start f composite) (covered f t);
  }
    where
      one : (p : ℕ) (covers : List ℕ) → Each P (digit_at t p covers)
      one p covers = each_rule P (eqb (get_or t p 0) (digit_of covers)) (expecting (check_of covers)) p (h (check_of covers) p)

      number : (span : Span) → Each P (number_digit f t span) × Each P (further_digit f t span)
      number Short = (one (start f number_check) (checked_by f t Short), each_passed P)
      number (Long n) = (each_passed P, one (start f optional + n) (checked_by f t (Long n)))
      number Bad = (each_passed P, each_passed P)
