-- The form that a text tells, and the one that a number in an entry tells.
use Rattle.std.specs.Prelude.{Option, Some, None}
use Prim.Native.Nat.{ℕ, ◌<◌}
use mathlib.Core.Path.{◌≡◌, refl, sym, ◌∙◌}
use mathlib.Core.Bool.{Bool, true, false, cond, not, ◌&&◌, ◌||◌, and-true, false≢true}
use mathlib.Core.List.{List, [], ◌∷◌}
use native.Mathlib.Omega.{arith}
use borrow.Author.Rules.{rules}
use borrow.Author.Tests.{eqb-true}
use lib.Dec.{eqb}
use lib.ListN.{length}
use Rattle.lent.proofs.Bools.{and_both}
use Rattle.zone.specs.declared.form.Form.{Form}
use Rattle.zone.specs.declared.form.Source.{Source}
use Rattle.zone.specs.declared.form.Source.TheVariants.{Alone}
use Rattle.zone.specs.Form.{row, forms, total, first_form, is_visa, is_alone, may_stand, selects_visa, is_of, form_of, form_by}
use Rattle.zone.proofs.AllForms.{all_forms}

-- what tells a form: the length, and whether a visa is selected where one may stand
abbrev pub told_by : ℕ → Bool → Option Form
told_by n visa = first_form (λ f. eqb n (total f) && (not (is_visa (row f).kind) || visa)) forms

pub told_so : (source : Source) (t : List ℕ) → form_of source t ≡ told_by (length t) (is_alone source && selects_visa t)
unfolding form_of is_of may_stand first_form forms row is_visa
told_so source t = rw (and-true (eqb (length t) 90), and-true (eqb (length t) 72), and-true (eqb (length t) 88))

-- whether two tests agree
agree : Bool → Bool → Bool
agree true b = b
agree false b = not b

agreed : (b c : Bool) {T : Type 0} → b ≡ c → cond (agree b c) T Unit → T
unfolding agree
agreed true true e t = t
agreed true false e t = absurd (false≢true (sym e))
agreed false true e t = absurd (false≢true e)
agreed false false e t = t

told_own : (visa : Bool) (f : Form) → cond (agree visa (is_visa (row f).kind)) (told_by (total f) visa ≡ Some f) Unit
unfolding agree first_form row forms is_visa
told_own true = all_forms (λ f. cond (agree true (is_visa (row f).kind)) (told_by (total f) true ≡ Some f) Unit) (search rules)
told_own false = all_forms (λ f. cond (agree false (is_visa (row f).kind)) (told_by (total f) false ≡ Some f) Unit) (search rules)

-- a text of a form's length is told as that form, where it selects a visa and stands alone exactly when the form is one
pub told_by_lem : (source : Source) (f : Form) (t : List ℕ) → is_alone source && selects_visa t ≡ is_visa (row f).kind
    → length t ≡ total f → form_of source t ≡ Some f
told_by_lem source f t same e =
    let visa = is_alone source && selects_visa t in
    told_so source t ∙ rw e (agreed visa (is_visa (row f).kind) same (told_own visa f))

pub as_same : (f g : Form) → Some f ≡ Some g → f ≡ g
as_same f g e = cc

unknown_not_as : (f : Form) → None ≡ Some f → ⊥
unknown_not_as f e = let z : ◌≡◌ {A = ℕ} 0 1 = cc in omega arith

-- a form that a list gives passes the test
pub first_passes : (p : Form → Bool) (fs : List Form) (f : Form) → first_form p fs ≡ Some f → p f ≡ true
unfolding first_form
first_passes p [] f e = absurd (unknown_not_as f e)
first_passes p (g ∷ fs) f e = go (p g) refl e (first_passes p fs f)
  where
    go : (b : Bool) → p g ≡ b → cond b (Some g) (first_form p fs) ≡ Some f → (first_form p fs ≡ Some f → p f ≡ true) → p f ≡ true
    go true q h left = rw (as_same g f h) at q
    go false q h left = left h

pub by_told : (source : Source) (f : Form) (t : List ℕ) → form_of source t ≡ Some f
    → (may_stand source f ≡ true) × (length t ≡ total f)
unfolding form_of is_of
by_told source f t e =
    let both = and_both (eqb (length t) (total f)) (may_stand source f && (not (is_visa (row f).kind) || selects_visa t))
    (first_passes (λ g. is_of source t g) forms f e) in
    let there = and_both (may_stand source f) (not (is_visa (row f).kind) || selects_visa t) both.1 in
    (there.0, eqb-true (length t) (total f) both.0)

-- alone, each may stand
pub alone_may : (f : Form) → may_stand Alone f ≡ true
unfolding may_stand is_alone
alone_may f = go (not (is_visa (row f).kind))
  where
    go : (b : Bool) → b || true ≡ true
    go true = refl
    go false = refl

-- three bits have room for the number
pub entered_tells : (f : Form) → (form_by (row f).entered ≡ Some f) × ((row f).entered < 8)
unfolding form_by first_form row forms
entered_tells = all_forms (λ f. (form_by (row f).entered ≡ Some f) × ((row f).entered < 8)) (search rules)

pub tells_entered : (n : ℕ) (f : Form) → form_by n ≡ Some f → (row f).entered ≡ n
unfolding form_by
tells_entered n f e = sym (eqb-true n (row f).entered (first_passes (λ g. eqb n (row g).entered) forms f e))
