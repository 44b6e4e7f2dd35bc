-- The rows of a text's checks decide as the reader's checks do, part by part.
use Prim.Native.Nat.{ℕ, ◌+◌, ◌-◌, ◌≤◌, ◌<◌}
use mathlib.Core.Path.{◌≡◌, refl, ap, sym, ◌∙◌}
use mathlib.Core.Bool.{Bool, true, false, cond, not, ◌&&◌, ◌||◌}
use mathlib.Core.List.{List, [], ◌∷◌, ◌++◌}
use lib.Dec.{leb, ltb}
use lib.ListN.{take, get_or}
use Rattle.lent.proofs.Bools.{and_both}
use Rattle.refusal.specs.Outcome.{Outcome, passed, refused, or_else, unless}
use Rattle.refusal.proofs.Outcomes.{or_else_passed, unless_kept}
use Rattle.zone.specs.declared.form.Form.{Form}
use Rattle.zone.specs.Alphabet.{is_filler}
use Rattle.zone.specs.Part.{Part, number, number_check, optional, birth, birth_check, expiry, expiry_check, composite, personal}
use Rattle.zone.specs.Part.{personal_check, same}
use Rattle.zone.specs.Rows.{PartRow, ◌is◌, in_rows}
use Rattle.zone.specs.Form.{parts, start, width, field, covered}
use Rattle.zone.proofs.Widths.{has_among}
use Rattle.text_digits.specs.declared.number.Span.TheVariants.{Short, Long, Bad}
use Rattle.text_digits.specs.Number.{is_long, cut_at, span_of, span_rule, number_rule, checked_by}
use Rattle.text_digits.specs.Digits.{digit_at, number_digit, further_digit, is_left_out}
use Rattle.text_digits.specs.Digits.{personal_digit, digit_rows, digit_check, in_order}
use Rattle.text.specs.Order.{field_rows, field_check}
use Rattle.text_theorems.specs.Accepted.{filler_at}
use Rattle.text_theorems.specs.TextChecks.{is_ended, field_checks, nine_at, digit_checks}
use Rattle.text_theorems.specs.Ordered.{by_part}
use Rattle.text_theorems.proofs.Common.{common}
use Rattle.text_theorems.proofs.FirstOf.{first_of, first_append}
use Rattle.text_theorems.proofs.NumberSpan.{short_span, long_span, span_ends}
use Rattle.text_theorems.proofs.PartByPart.{walk_each}

-- ---- two lists of rows that speak of the same parts

infixr 5 ◌with◌
data Alike {A B : Type 0} (Q : A → B → Type 0) : List (PartRow A) → List (PartRow B) → Type 0 where
  all_alike : Alike Q [] []
  ◌with◌ : {x : Part} {a : A} {b : B} {xs : List (PartRow A)} {ys : List (PartRow B)} → Q a b → Alike Q xs ys
      → Alike Q (x is a ∷ xs) (x is b ∷ ys)

alike_rows : {A B : Type 0} (Q : A → B → Type 0) (none : A) (none' : B) → Q none none' → (xs : List (PartRow A))
    (ys : List (PartRow B)) → Alike Q xs ys → (z : Part) → Q (in_rows none xs z) (in_rows none' ys z)
alike_rows Q none none' q _ _ all_alike z = q
alike_rows {A} {B} Q none none' q _ _ (◌with◌ {x} {a} {b} {xs} {ys} h hs) z = go (same z x) (alike_rows Q none none' q xs ys hs z)
  where
    go : (c : Bool) → Q (in_rows none xs z) (in_rows none' ys z)
        → Q (cond c a (in_rows none xs z)) (cond c b (in_rows none' ys z))
    go true rest = h
    go false rest = rest

-- a walk over parts, and the rows of these parts
by_part_lem : (check : Part → Outcome) (rows : List (PartRow (List Outcome)))
    → ((x : Part) → check x ≡ first_of (in_rows [] rows x))
    → (xs : List Part) → in_order check xs ≡ first_of (by_part rows xs)
unfolding in_order by_part first_of
by_part_lem check rows h [] = refl
by_part_lem check rows h (x ∷ xs) =
    rw (h x, by_part_lem check rows h xs) (sym (first_append (in_rows [] rows x) (by_part rows xs)))

-- what goes on behind a check matters where it passed
else_same : (a b c : Outcome) → (a ≡ passed → b ≡ c) → or_else a b ≡ or_else a c
else_same passed b c h = h refl
else_same (refused n p) b c h = refl

one_row : (o : Outcome) → o ≡ first_of (o ∷ [])
unfolding first_of
one_row o = sym (or_else_passed o)

-- ---- the fields

two_rows : (a b : Bool) (n p : ℕ) → unless (a && b) n p ≡ first_of (unless a n p ∷ unless b n p ∷ [])
unfolding first_of
two_rows true b n p = sym (or_else_passed (unless b n p))
two_rows false b n p = refl

ended : (f : Form) (t : List ℕ) → span_rule (span_of f t) ≡ not (is_long f t) || is_ended f t
unfolding span_of cut_at span_rule is_ended
ended f t = go (is_long f t) (leb 2 (filler_at f t) && ltb (filler_at f t) (width f optional))
  where
    go : (a b : Bool) → span_rule (cond a (cond b (Long (filler_at f t - 1)) Bad) Short) ≡ not a || b
    go true true = refl
    go true false = refl
    go false b = refl

module _ (f : Form) (t : List ℕ) where
  field_first : (x : Part) → field_check f t (span_of f t) x ≡ first_of (in_rows [] (field_checks f t) x)
  unfolding field_rows field_checks number_rule first_of
  field_first = alike_rows (λ o os. o ≡ first_of os) passed [] refl (field_rows f t (span_of f t)) (field_checks f t)
      (one_row _
      with one_row _
      with one_row _
      with (ap (λ b. unless (not (is_filler (get_or (field f number t) 0 0)) && b) 5 (start f number)) (ended f t)
      ∙ two_rows (not (is_filler (get_or (field f number t) 0 0))) (not (is_long f t) || is_ended f t) 5 (start f number))
      with one_row _
      with one_row _
      with one_row _
      with one_row _
      with all_alike)

  -- ---- the digits, where the fields passed

  nine_first : (place : ℕ) (covers : List ℕ) → digit_at t place covers ≡ first_of (nine_at t place covers)
  unfolding digit_at nine_at
  nine_first place covers = one_row _

  personal_first : personal_digit f t
      ≡ first_of (cond (is_left_out f t) [] (nine_at t (start f personal_check) (field f personal t)))
  unfolding personal_digit first_of
  personal_first = go (is_left_out f t)
    where
      go : (b : Bool) → cond b passed (digit_at t (start f personal_check) (field f personal t))
          ≡ first_of (cond b [] (nine_at t (start f personal_check) (field f personal t)))
      go true = refl
      go false = nine_first (start f personal_check) (field f personal t)

  module _ (ends : is_long f t ≡ true → (2 ≤ filler_at f t) × (filler_at f t < width f optional)) where
    record Both : Type 0 where
      of_short : number_digit f t (span_of f t)
          ≡ first_of (cond (is_long f t) [] (nine_at t (start f number_check) (field f number t)))
      of_long : further_digit f t (span_of f t)
          ≡ first_of (cond (is_long f t) (nine_at t (start f optional + (filler_at f t - 1))
          (field f number t ++ take (filler_at f t - 1) (field f optional t))) [])

    both : Both
    unfolding number_digit further_digit checked_by first_of
    both = go (is_long f t) refl
      where
        go : (b : Bool) → is_long f t ≡ b → Both
        go false e = record {
          of_short = rw (short_span f t e, e) (nine_first (start f number_check) (field f number t));
          of_long = rw (short_span f t e, e);
        }
        go true e =
            let span = long_span f t e (ends e).0 (ends e).1 in
            record {
              of_short = rw (span, e);
              of_long = rw (span, e) (nine_first (start f optional + (filler_at f t - 1))
                  (field f number t ++ take (filler_at f t - 1) (field f optional t)));
            }

    digit_first : (x : Part) → digit_check f t (span_of f t) x ≡ first_of (in_rows [] (digit_checks f t) x)
    unfolding digit_rows digit_checks first_of
    digit_first = alike_rows (λ o os. o ≡ first_of os) passed [] refl (digit_rows f t (span_of f t)) (digit_checks f t)
        (both.of_short
        with both.of_long
        with nine_first (start f birth_check) (field f birth t)
        with nine_first (start f expiry_check) (field f expiry t)
        with personal_first
        with nine_first (start f composite) (covered f t)
        with all_alike)

  -- ---- both

  number_ends : in_order (field_check f t (span_of f t)) (parts f) ≡ passed → is_long f t ≡ true
      → (2 ≤ filler_at f t) × (filler_at f t < width f optional)
  unfolding field_rows number_rule
  number_ends e =
      let passes = walk_each (field_check f t (span_of f t)) (parts f) e number
      (sym (has_among f number) ∙ (common f).has_number) in
      span_ends f t (and_both (not (is_filler (get_or (field f number t) 0 0))) (span_rule (span_of f t))
      (unless_kept (number_rule f t (span_of f t)) 5 (start f number) passes)).1

  pub rows_first : or_else (in_order (field_check f t (span_of f t)) (parts f))
      (in_order (digit_check f t (span_of f t)) (parts f))
      ≡ first_of (by_part (field_checks f t) (parts f) ++ by_part (digit_checks f t) (parts f))
  rows_first =
      let fields = by_part (field_checks f t) (parts f) in
      let digits = by_part (digit_checks f t) (parts f) in
      else_same _ (in_order (digit_check f t (span_of f t)) (parts f)) (first_of digits)
      (λ e. by_part_lem (digit_check f t (span_of f t)) (digit_checks f t) (digit_first (number_ends e)) (parts f))
      ∙ ap (λ o. or_else o (first_of digits))
      (by_part_lem (field_check f t (span_of f t)) (field_checks f t) field_first (parts f))
      ∙ sym (first_append fields digits)
