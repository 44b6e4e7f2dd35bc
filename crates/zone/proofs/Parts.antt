-- The parts of a text: each has its own rank, no two overlap, and what rows say of them.
use Prim.Native.Nat.{◌+◌, ◌≤◌, ℕ}
use mathlib.Core.Path.{◌≡◌, refl, sym, ◌∙◌, ap, subst}
use mathlib.Core.Bool.{Bool, true, false, cond, false≢true}
use mathlib.Core.Logic.{◌⊎◌, inl, inr}
use mathlib.Core.List.{List, [], ◌∷◌}
use native.Mathlib.Omega.{arith}
use borrow.Author.Tests.{eqb-true, eq-eqb}
use lib.ListN.{get_or}
use Rattle.lent.proofs.Bools.{and_both}
use Rattle.zone.specs.declared.form.Form.{Form}
use Rattle.zone.specs.Part.{Part, rank, same, code, state, number, number_check, optional, birth, birth_check, sex, expiry}
use Rattle.zone.specs.Part.{expiry_check, nationality, optional2, composite, name, personal, personal_check, own}
use Rattle.zone.specs.Rows.{PartRow, ◌is◌, in_rows, all_rows}
use Rattle.zone.specs.Form.{Cell, ◌of◌, layout, start_in, start, width_in, width}

-- one part before the other, whichever
Apart : List Cell → Part → Part → Type 0
Apart cells x y = (start_in cells x + width_in cells x ≤ start_in cells y)
    ⊎ (start_in cells y + width_in cells y ≤ start_in cells x)

both_there : (x y z : Part) → same x y ≡ false → same x z ≡ true → same y z ≡ true → ⊥
both_there x y z n p q =
    let a = eqb-true (rank x) (rank z) p in
    let b = eqb-true (rank y) (rank z) q in
    false≢true (sym n ∙ eq-eqb (rank x) (rank y) (a ∙ sym b))

apart_cells : (cells : List Cell) (x y : Part) → same x y ≡ false → Apart cells x y
unfolding Apart start_in width_in
apart_cells [] x y n = inl (omega arith)
apart_cells (z of w ∷ cells) x y n = go (same x z) (same y z) refl refl (apart_cells cells x y n)
  where
    go : (a b : Bool) → same x z ≡ a → same y z ≡ b → Apart cells x y → Apart (z of w ∷ cells) x y
    go true true p q h = absurd (both_there x y z n p q)
    go true false p q h = rw (p, q) (inl (omega arith))
    go false true p q h = rw (p, q) (inr (omega arith))
    go false false p q (inl h) = rw (p, q) (inl (omega arith))
    go false false p q (inr h) = rw (p, q) (inr (omega arith))

pub apart : (f : Form) (x y : Part) → same x y ≡ false → (start f x + width f x ≤ start f y) ⊎ (start f y + width f y ≤ start f x)
unfolding start width Apart
apart f x y n = apart_cells (layout f) x y n

-- two parts of one rank are one part
ranked : ℕ → Part
ranked n =
    get_or
    (code ∷ state ∷ number ∷ number_check ∷ optional ∷ birth ∷ birth_check ∷ sex ∷ expiry ∷ expiry_check ∷ nationality ∷ optional2
    ∷ composite
    ∷ name ∷ personal ∷ personal_check ∷ own ∷ []) n code

ranked_rank : (x : Part) → ranked (rank x) ≡ x
unfolding ranked
ranked_rank code = refl
ranked_rank state = refl
ranked_rank number = refl
ranked_rank number_check = refl
ranked_rank optional = refl
ranked_rank birth = refl
ranked_rank birth_check = refl
ranked_rank sex = refl
ranked_rank expiry = refl
ranked_rank expiry_check = refl
ranked_rank nationality = refl
ranked_rank optional2 = refl
ranked_rank composite = refl
ranked_rank name = refl
ranked_rank personal = refl
ranked_rank personal_check = refl
ranked_rank own = refl

pub same_one : (x y : Part) → same x y ≡ true → x ≡ y
same_one x y e = sym (ranked_rank x) ∙ (ap ranked (eqb-true (rank x) (rank y) e) ∙ ranked_rank y)

pub same_self : (x : Part) → same x x ≡ true
same_self x = eq-eqb (rank x) (rank x) refl

-- what holds of what each row says, and of what stands for none, holds of every part
infixr 5 ◌and◌
pub data OfRows {A : Type 0} (Q : Part → A → Type 0) : List (PartRow A) → Type 0 where
  all_said : OfRows Q []
  ◌and◌ : {y : Part} {a : A} {rows : List (PartRow A)} → Q y a → OfRows Q rows → OfRows Q (y is a ∷ rows)

pub in_rows_or : {A : Type 0} (Q : Part → A → Type 0) (none : Part → A) (rows : List (PartRow A)) → ((x : Part) → Q x (none x))
    → OfRows Q rows → (x : Part) → Q x (in_rows (none x) rows x)
in_rows_or Q none [] other all_said x = other x
in_rows_or {A} Q none (y is a ∷ rows) other (said and left) x = go (same x y) refl (in_rows_or Q none rows other left x)
  where
    go : (b : Bool) → same x y ≡ b → Q x (in_rows (none x) rows x) → Q x (cond b a (in_rows (none x) rows x))
    go true e rest = subst (λ (z : Part). Q z a) (sym (same_one x y e)) said
    go false e rest = rest

pub in_rows_lem : {A : Type 0} (Q : Part → A → Type 0) (none : A) (rows : List (PartRow A)) → ((x : Part) → Q x none)
    → OfRows Q rows
    → (x : Part) → Q x (in_rows none rows x)
in_rows_lem Q none rows = in_rows_or Q (λ x. none) rows

-- what follows of each row
pub rows_then : {A : Type 0} {P Q : Part → A → Type 0} (rows : List (PartRow A)) → ((x : Part) (a : A) → P x a → Q x a)
    → OfRows P rows → OfRows Q rows
rows_then [] h all_said = all_said
rows_then (x is a ∷ rows) h (said and left) = h x a said and rows_then rows h left

-- a test of every row
pub rows_pass : {A : Type 0} (p : Part → A → Bool) (rows : List (PartRow A)) → all_rows p rows ≡ true
    → OfRows (λ x a. p x a ≡ true) rows
rows_pass p [] e = all_said
rows_pass p (x is a ∷ rows) e = let both = and_both (p x a) (all_rows p rows) e in both.0 and rows_pass p rows both.1

pub pass_rows : {A : Type 0} (p : Part → A → Bool) (rows : List (PartRow A)) → OfRows (λ x a. p x a ≡ true) rows
    → all_rows p rows ≡ true
pass_rows p [] all_said = refl
pass_rows p (x is a ∷ rows) (e and es) = rw (e, pass_rows p rows es)
