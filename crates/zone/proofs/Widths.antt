-- The widths that are the same in every form, and that every part lies within the text.
use Prim.Native.Nat.{ℕ, ◌+◌, ◌≤◌, ◌<◌}
use mathlib.Core.Path.{◌≡◌, refl, ap, ◌∙◌}
use mathlib.Core.Bool.{Bool, true, false, cond, ◌&&◌, ◌||◌}
use mathlib.Core.List.{List, [], ◌∷◌, map}
use native.Mathlib.Omega.{arith}
use borrow.Author.Rules.{rules}
use borrow.Author.Tests.{ltb-true, ltb-false}
use lib.Dec.{ltb}
use Rattle.lent.proofs.Bools.{and_both}
use mathlib.Core.Logic.{◌⊎◌, inl, inr}
use Rattle.zone.specs.declared.form.Form.{Form}
use Rattle.zone.specs.Part.{Part, code, state, number, birth, sex, expiry, nationality, same, among, number_check}
use Rattle.zone.specs.Part.{birth_check}
use Rattle.zone.specs.Part.{expiry_check, optional, composite, personal_check, name}
use Rattle.zone.specs.Rooms.{code_room, state_room, date_room, nine, number_room, name_room}
use Rattle.zone.specs.Form.{Cell, ◌of◌, row, forms, layout, start_in, start, width_in, width, total, longest, has}
use Rattle.zone.specs.Form.{part_of, parts}
use Rattle.zone.proofs.AllForms.{all_forms}

pub record Fixed (f : Form) : Type 0 where
  pub code_width : width f code ≡ code_room
  pub state_width : width f state ≡ state_room
  pub number_width : width f number ≡ nine
  pub nationality_width : width f nationality ≡ state_room
  pub birth_width : width f birth ≡ date_room
  pub sex_width : width f sex ≡ 1
  pub expiry_width : width f expiry ≡ date_room

pub fixed : (f : Form) → Fixed f
unfolding row width width_in forms
fixed = all_forms Fixed (search rules)

unfoldable pub total_in : List Cell → ℕ
total_in [] = 0
total_in (x of w ∷ cells) = w + total_in cells

-- the widths of a layout add up to the text's length
pub adds_up : (f : Form) → total_in (layout f) ≡ total f
unfolding total_in row forms
adds_up = all_forms (λ f. total_in (layout f) ≡ total f) (search rules)

within_cells : (cells : List Cell) (x : Part) → start_in cells x + width_in cells x ≤ total_in cells
unfolding total_in start_in width_in
within_cells [] x = omega arith
within_cells (y of w ∷ cells) x = go (same x y) (within_cells cells x)
  where
    go : (b : Bool) → start_in cells x + width_in cells x ≤ total_in cells
        → cond b 0 (w + start_in cells x) + cond b w (width_in cells x) ≤ w + total_in cells
    go true h = omega arith
    go false h = omega arith

pub within : (f : Form) (x : Part) → start f x + width f x ≤ total f
unfolding start width
within f x = rw (adds_up f) at (within_cells (layout f) x)

pub total_le : (f : Form) → total f ≤ 90
unfolding row forms
total_le = all_forms (λ f. total f ≤ 90) (search rules)

-- the check digits, which are one character each: those that every form has, and those that some have
pub record Ones (f : Form) : Type 0 where
  pub number_check_one : width f number_check ≡ 1
  pub birth_check_one : width f birth_check ≡ 1
  pub expiry_check_one : width f expiry_check ≡ 1
  pub personal_check_most : width f personal_check ≤ 1
  pub composite_most : width f composite ≤ 1

pub ones : (f : Form) → Ones f
unfolding row width width_in forms
ones = all_forms Ones (search rules)

pub has_one : (f : Form) (x : Part) → width f x ≤ 1 → has f x ≡ true → width f x ≡ 1
has_one f x most there = omega (arith, ltb-true 0 (width f x) there)

-- the nine fit the longest number, which fits its room; the further characters of a long one leave the optional field a place for
-- their digit and one for the filler behind it
pub record Longest (f : Form) : Type 0 where
  pub nine_fit : nine ≤ longest f
  pub room_fits : longest f ≤ number_room
  pub long_room : nine < longest f → longest f ≡ width f optional + 7

pub longest_number : (f : Form) → Longest f
unfolding row width width_in forms
longest_number = all_forms Longest (search rules)

pub some_name : (f : Form) → 0 < width f name
unfolding row width width_in forms
some_name = all_forms (λ f. 0 < width f name) (search rules)

pub name_room_lem : (f : Form) → width f name ≤ name_room
unfolding row width width_in forms
name_room_lem = all_forms (λ f. width f name ≤ name_room) (search rules)

-- no part of a layout is empty
none_empty : List Cell → Bool
none_empty [] = true
none_empty (x of w ∷ cells) = ltb 0 w && none_empty cells

-- so a part that a form does not have begins at the text's end
past_cells : (cells : List Cell) (x : Part) → none_empty cells ≡ true → width_in cells x ≡ 0 → start_in cells x ≡ total_in cells
unfolding none_empty total_in start_in width_in
past_cells [] x e h = refl
past_cells (y of w ∷ cells) x e h =
    let both = and_both (ltb 0 w) (none_empty cells) e in
    go (same x y) (ltb-true 0 w both.0) h (past_cells cells x both.1)
  where
    go : (b : Bool) → 0 < w → cond b w (width_in cells x) ≡ 0 → (width_in cells x ≡ 0 → start_in cells x ≡ total_in cells)
        → cond b 0 (w + start_in cells x) ≡ w + total_in cells
    go true some none left = absurd (omega arith)
    go false some none left = ap (λ n. w + n) (left none)

none_empty_lem : (f : Form) → none_empty (layout f) ≡ true
unfolding none_empty row forms
none_empty_lem = all_forms (λ f. none_empty (layout f) ≡ true) (search rules)

-- and one that it has stands among its parts
among_cells : (cells : List Cell) (x : Part) → none_empty cells ≡ true → ltb 0 (width_in cells x) ≡ among x (map part_of cells)
unfolding none_empty width_in among part_of
among_cells [] x e = refl
among_cells (y of w ∷ cells) x e =
    let both = and_both (ltb 0 w) (none_empty cells) e in
    go (same x y) (among_cells cells x both.1) both.0
  where
    go : (b : Bool) → ltb 0 (width_in cells x) ≡ among x (map part_of cells) → ltb 0 w ≡ true
        → ltb 0 (cond b w (width_in cells x)) ≡ b || among x (map part_of cells)
    go true left some = some
    go false left some = left

pub has_among : (f : Form) (x : Part) → has f x ≡ among x (parts f)
unfolding width parts
has_among f x = among_cells (layout f) x (none_empty_lem f)

pub here_or_end : (f : Form) (x : Part) → (has f x ≡ true) ⊎ ((width f x ≡ 0) × (start f x ≡ total f))
unfolding start width
here_or_end f x = go (ltb 0 (width f x)) refl
  where
    go : (b : Bool) → ltb 0 (width_in (layout f) x) ≡ b
        → (b ≡ true) ⊎ ((width_in (layout f) x ≡ 0) × (start_in (layout f) x ≡ total f))
    go true e = inl refl
    go false e =
        let none : width_in (layout f) x ≡ 0 = omega (arith, ltb-false 0 (width_in (layout f) x) e) in
        inr (none, past_cells (layout f) x (none_empty_lem f) none ∙ adds_up f)
