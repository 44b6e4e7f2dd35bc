-- A walk over parts passes exactly where every part's check does.
use Prim.Native.Nat.{ℕ}
use mathlib.Core.Path.{◌≡◌, refl, ap, ◌∙◌}
use mathlib.Core.Bool.{Bool, true, false, cond, ◌||◌}
use mathlib.Core.List.{List, [], ◌∷◌}
use native.Mathlib.Omega.{arith}
use borrow.Author.Tests.{eqb-true, eq-eqb}
use lib.Dec.{eqb}
use lib.ListN.{get_or}
use Rattle.refusal.specs.Numbers.{expecting}
use Rattle.refusal.specs.Outcome.{Outcome, passed}
use Rattle.refusal.proofs.Outcomes.{both_passed, rule_kept, kept_rule}
use Rattle.zone.specs.declared.form.Form.{Form}
use Rattle.zone.specs.Part.{Part, personal, personal_check, same, among}
use Rattle.zone.specs.Form.{start, field}
use Rattle.text_digits.specs.Digits.{in_order, digit_at, is_left_out, personal_digit}
use Rattle.digit.specs.Check.{check_of, digit_of}
use Rattle.zone.proofs.Parts.{same_one, same_self}

pub digit_kept : (t : List ℕ) (place : ℕ) (covers : List ℕ) → digit_at t place covers ≡ passed
    → get_or t place 0 ≡ digit_of covers
unfolding digit_at
digit_kept t place covers e = eqb-true (get_or t place 0) (digit_of covers)
    (rule_kept (eqb (get_or t place 0) (digit_of covers)) (expecting (check_of covers)) place e)

pub kept_digit : (t : List ℕ) (place : ℕ) (covers : List ℕ) → get_or t place 0 ≡ digit_of covers
    → digit_at t place covers ≡ passed
unfolding digit_at
kept_digit t place covers e = kept_rule (eqb (get_or t place 0) (digit_of covers)) (expecting (check_of covers)) place
    (eq-eqb (get_or t place 0) (digit_of covers) e)

pub personal_kept : (f : Form) (t : List ℕ) → personal_digit f t ≡ passed → is_left_out f t ≡ false
    → get_or t (start f personal_check) 0 ≡ digit_of (field f personal t)
unfolding personal_digit
personal_kept f t e in_text_lem = digit_kept t (start f personal_check) (field f personal t) (rw in_text_lem at e)

pub kept_personal : (f : Form) (t : List ℕ)
    → (is_left_out f t ≡ false → get_or t (start f personal_check) 0 ≡ digit_of (field f personal t))
    → personal_digit f t ≡ passed
unfolding personal_digit
kept_personal f t h = go (is_left_out f t) refl
  where
    go : (b : Bool) → is_left_out f t ≡ b → cond b passed (digit_at t (start f personal_check) (field f personal t)) ≡ passed
    go true e = refl
    go false e = kept_digit t (start f personal_check) (field f personal t) (h e)

pub walk_each : (check : Part → Outcome) (xs : List Part) → in_order check xs ≡ passed → (x : Part) → among x xs ≡ true
    → check x ≡ passed
unfolding in_order among
walk_each check [] e x h = absurd (let z : ◌≡◌ {A = ℕ} 0 1 = cc in omega arith)
walk_each check (y ∷ ys) e x h = go (same x y) refl h (walk_each check ys parted.1 x)
  where
    parted : (check y ≡ passed) × (in_order check ys ≡ passed)
    parted = both_passed (check y) (in_order check ys) e

    go : (b : Bool) → same x y ≡ b → b || among x ys ≡ true → (among x ys ≡ true → check x ≡ passed) → check x ≡ passed
    go true p q rest = ap check (same_one x y p) ∙ parted.0
    go false p q rest = rest q

pub each_walk : (check : Part → Outcome) (xs : List Part) → ((x : Part) → among x xs ≡ true → check x ≡ passed)
    → in_order check xs ≡ passed
unfolding in_order among
each_walk check [] h = refl
each_walk check (y ∷ ys) h = rw (h y first, each_walk check ys (λ x m. h x (later x m)))
  where
    first : same y y || among y ys ≡ true
    first = rw (same_self y)

    later : (x : Part) → among x ys ≡ true → same x y || among x ys ≡ true
    later x m = or_right (same x y) m
      where
        or_right : (b : Bool) → among x ys ≡ true → b || among x ys ≡ true
        or_right true e = refl
        or_right false e = e
