-- The laws of `in_place`: parts in their order, each with fillers behind what it is given.
use Prim.Native.Nat.{ℕ, ◌+◌, ◌-◌, ◌≤◌}
use mathlib.Core.Path.{◌≡◌, refl, ap, sym, ◌∙◌}
use mathlib.Core.Bool.{Bool, true, false, cond, not, ◌&&◌, false≢true}
use mathlib.Core.List.{List, [], ◌∷◌, ◌++◌, map, append_assoc}
use native.Mathlib.Omega.{arith}
use borrow.Author.Rules.{rules}
use lib.ListN.{length, take, drop, replicate, length-take, length-append, length-replicate, replicate-append-replicate}
use lib.Seq.{take_all, take_at, drop_at, drop-drop, drop-append-le, take-append-add}
use Rattle.lent.specs.Copied.{copied, copied_at}
use Rattle.lent.proofs.Bools.{and_both, or_neither, not_true}
use Rattle.zone.specs.declared.form.Form.{Form}
use Rattle.zone.specs.Alphabet.{every, filler}
use Rattle.zone.specs.Part.{Part, same, among}
use Rattle.zone.specs.Form.{Cell, ◌of◌, row, forms, layout, part_of, start_in, width_in, start, width, total, field}
use Rattle.zone.specs.Record.{padded}
use Rattle.zone.proofs.AllForms.{all_forms}
use Rattle.zone.proofs.Every.{every_append, every_take, every_replicate}
use Rattle.zone.proofs.Padded.{padded_nil, padded_zero, padded_cut, length-padded, copied_padded}
use Rattle.zone.proofs.Parts.{same_one, same_self}
use Rattle.zone.proofs.Widths.{total_in, adds_up}
use Rattle.writing.specs.Text.{in_place}

length-cells : (g : Part → List ℕ) (cells : List Cell) → length (in_place g cells) ≡ total_in cells
unfolding in_place total_in
length-cells g [] = refl
length-cells g (x of w ∷ cells) =
    length-append (padded w (g x)) (in_place g cells) ∙ rw (length-padded w (g x), length-cells g cells)

pub length_in_place : (g : Part → List ℕ) (f : Form) → length (in_place g (layout f)) ≡ total f
length_in_place g f = length-cells g (layout f) ∙ adds_up f

pub every_in_place : (p : ℕ → Bool) (g : Part → List ℕ) → p filler ≡ true → ((x : Part) → every p (g x) ≡ true)
    → (cells : List Cell) → every p (in_place g cells) ≡ true
unfolding in_place every padded
every_in_place p g e h [] = refl
every_in_place p g e h (x of w ∷ cells) =
    let filled = every_append p (take w (g x)) (replicate (w - length (g x)) filler) (every_take p w (g x) (h x))
    (every_replicate p (w - length (g x)) filler e) in
    every_append p (take w (g x) ++ replicate (w - length (g x)) filler) (in_place g cells) filled (every_in_place p g e h cells)

pub same_in_place : (g h : Part → List ℕ) → ((x : Part) → g x ≡ h x) → (cells : List Cell) → in_place g cells ≡ in_place h cells
unfolding in_place
same_in_place g h e [] = refl
same_in_place g h e (x of w ∷ cells) = rw (e x, same_in_place g h e cells)

-- what stands in the place of a part
field_cells : (g : Part → List ℕ) (x : Part) (cells : List Cell)
    → take (width_in cells x) (drop (start_in cells x) (in_place g cells)) ≡ padded (width_in cells x) (g x)
unfolding in_place start_in width_in
field_cells g x [] = sym (padded_zero (g x))
field_cells g x (y of w ∷ cells) = go (same x y) refl (field_cells g x cells)
  where
    go : (b : Bool) → same x y ≡ b
        → take (width_in cells x) (drop (start_in cells x) (in_place g cells)) ≡ padded (width_in cells x) (g x)
        → take (cond b w (width_in cells x)) (drop (cond b 0 (w + start_in cells x)) (padded w (g y) ++ in_place g cells))
        ≡ padded (cond b w (width_in cells x)) (g x)
    go true e left =
        take_at (padded w (g y)) (in_place g cells) w (length-padded w (g y)) ∙ ap (λ z. padded w (g z)) (sym (same_one x y e))
    go false e left =
        ap (take (width_in cells x)) (sym (drop-drop (start_in cells x) w (padded w (g y) ++ in_place g cells))
        ∙ ap (drop (start_in cells x)) (drop_at (padded w (g y)) (in_place g cells) w (length-padded w (g y))))
        ∙ left

pub field_in_place : (g : Part → List ℕ) (f : Form) (x : Part) → field f x (in_place g (layout f)) ≡ padded (width f x) (g x)
unfolding field start width
field_in_place g f x = field_cells g x (layout f)

-- ---- one part more

-- a part given characters, and the others as before
abbrev pub also : (Part → List ℕ) → Part → List ℕ → Part → List ℕ
also g x s y = cond (same y x) s (g y)

none_twice : List Cell → Bool
none_twice [] = true
none_twice (x of w ∷ cells) = not (among x (map part_of cells)) && none_twice cells

none_twice_lem : (f : Form) → none_twice (layout f) ≡ true
unfolding none_twice among part_of row forms
none_twice_lem = all_forms (λ f. none_twice (layout f) ≡ true) (search rules)

same_other : (x y : Part) → same x y ≡ false → same y x ≡ false
same_other x y e = go (same y x) refl
  where
    go : (b : Bool) → same y x ≡ b → b ≡ false
    go true k = absurd (false≢true (sym e ∙ rw (same_one y x k) (same_self x)))
    go false k = refl

-- a part that does not stand among them makes no difference
also_none : (g : Part → List ℕ) (x : Part) (s : List ℕ) (cells : List Cell) → among x (map part_of cells) ≡ false
    → in_place (also g x s) cells ≡ in_place g cells
unfolding in_place among part_of
also_none g x s [] n = refl
also_none g x s (y of w ∷ cells) n =
    let neither = or_neither (same x y) (among x (map part_of cells)) n in
    rw (same_other x y neither.0, also_none g x s cells neither.1)

-- a copy within the first of two lists, and one behind it
copied_first : (a b u : List ℕ) → length u ≤ length a → copied (a ++ b) u ≡ copied a u ++ b
copied_first a b u h =
    let long : length u ≤ length (a ++ b) = rw length-append (omega arith) in
    rw (take_all (length (a ++ b)) u long, take_all (length a) u h, drop-append-le (length u) a b h)
    (sym (append_assoc u (drop (length u) a) b))

copied_second : (a b u : List ℕ) (n k : ℕ) → length a ≡ n → copied_at (a ++ b) (n + k) u ≡ a ++ copied_at b k u
copied_second a b u n k e =
    let behind : drop (n + k) (a ++ b) ≡ drop k b = sym (drop-drop k n (a ++ b)) ∙ ap (drop k) (drop_at a b n e) in
    let front : take (n + k) (a ++ b) ≡ a ++ take k b = rw (← e) (take-append-add a b k) in
    rw (front, behind) (append_assoc a (take k b) (copied (drop k b) u))

put_cells : (g : Part → List ℕ) (x : Part) (s : List ℕ) → g x ≡ [] → (cells : List Cell) → none_twice cells ≡ true
    → copied_at (in_place g cells) (start_in cells x) (take (width_in cells x) s) ≡ in_place (also g x s) cells
unfolding in_place start_in width_in none_twice
put_cells g x s none [] e = refl
put_cells g x s none (y of w ∷ cells) e =
    let both = and_both (not (among y (map part_of cells))) (none_twice cells) e in
    go (same x y) refl (not_true (among y (map part_of cells)) both.0) (put_cells g x s none cells both.1)
  where
    go : (b : Bool) → same x y ≡ b → among y (map part_of cells) ≡ false
        → copied_at (in_place g cells) (start_in cells x) (take (width_in cells x) s) ≡ in_place (also g x s) cells
        → copied_at (padded w (g y) ++ in_place g cells) (cond b 0 (w + start_in cells x)) (take (cond b w (width_in cells x)) s)
        ≡ padded w (also g x s y) ++ in_place (also g x s) cells
    go true k once left =
        let one = same_one x y k in
        let blank : padded w (g y) ≡ replicate w filler = ap (padded w) (ap g (sym one) ∙ none) ∙ padded_nil w in
        let fits : length (take w s) ≤ length (replicate w filler) = rw (length-take, length-replicate) (omega arith) in
        let others : in_place (also g x s) cells ≡ in_place g cells = also_none g x s cells (rw (← one) at once) in
        let own : same y x ≡ true = rw (← one) (same_self x) in
        rw (blank, own, others)
        (copied_first (replicate w filler) (in_place g cells) (take w s) fits
        ∙ ap (λ (l : List ℕ). l ++ in_place g cells) (copied_padded w (take w s) ∙ padded_cut w s))
    go false k once left =
        rw (same_other x y k)
        (copied_second (padded w (g y)) (in_place g cells) (take (width_in cells x) s) w (start_in cells x)
        (length-padded w (g y))
        ∙ ap (λ (l : List ℕ). padded w (g y) ++ l) left)

pub put_in_place : (f : Form) (g : Part → List ℕ) (x : Part) (s : List ℕ) → g x ≡ []
    → copied_at (in_place g (layout f)) (start f x) (take (width f x) s) ≡ in_place (also g x s) (layout f)
unfolding start width
put_in_place f g x s none = put_cells g x s none (layout f) (none_twice_lem f)

-- ---- none

none_cells : (cells : List Cell) → replicate (total_in cells) filler ≡ in_place (λ x. []) cells
unfolding in_place total_in
none_cells [] = refl
none_cells (x of w ∷ cells) =
    sym (replicate-append-replicate w (total_in cells) filler)
    ∙ rw (padded_nil w) (ap (λ (l : List ℕ). replicate w filler ++ l) (none_cells cells))

pub none_in_place : (f : Form) → replicate (total f) filler ≡ in_place (λ x. []) (layout f)
none_in_place f = rw (← adds_up f) (none_cells (layout f))
