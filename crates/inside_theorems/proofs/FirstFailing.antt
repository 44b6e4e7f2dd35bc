-- THE FIRST FAILING CHECK: a file is refused by a number at a place exactly where the first row of `inside_checks` that fails
-- says
-- so (`inside_refused_exactly`).
use Prim.Native.Nat.{ℕ, zero, suc, ◌+◌, ◌≤◌, ◌<◌}
use mathlib.Core.Path.{◌≡◌, refl, ap, sym, ◌∙◌}
use mathlib.Core.Logic.{◌↔◌}
use mathlib.Core.Bool.{Bool, true, false, cond, not, ◌&&◌, ◌||◌}
use mathlib.Core.List.{List, [], ◌∷◌, ◌++◌}
use native.Mathlib.Omega.{arith}
use borrow.Author.Tests.{leb-true, leb-false}
use lib.Dec.{eqb, leb}
use lib.ListN.{length, take, get_or}
use Rattle.refusal.specs.Numbers.{Why, by}
use Rattle.refusal.specs.Outcome.{Outcome, passed, refused, or_else, unless}
use Rattle.refusal.proofs.Outcomes.{or_else_passed}
use Rattle.tlv.specs.declared.Stretch.{Stretch}
use Rattle.tlv.specs.Read.{Read, value, refusal, and_then, checked, outcome_in}
use Rattle.tlv.specs.Element.{element}
use Rattle.tlv.specs.Cut.{cut, end_check}
use Rattle.tlv.specs.Tags.{is_group}
use Rattle.tlv.proofs.Joined.{told_then, refusal_told, first_value, same_value, checked_outcome}
use Rattle.tlv.proofs.Onward.{stretch_read}
use Rattle.tree.specs.Tag.{is_constructed, tag_here, is_tag_here}
use Rattle.tree.specs.Tree.{Tree, one, holds, Forest, elements}
use Rattle.tree.specs.Tree as forests
use Rattle.tree.specs.Reading.{Found, here, forest, inside, tree_at}
use Rattle.tree.proofs.Bounds.{tree_bound}
use Rattle.tree.proofs.Walking.{before, forest_done, forest_next, forest_refused}
use Rattle.inside.specs.Templates.{template, value_here, directly, with_tag}
use Rattle.inside.specs.Templates.{count_holds, first_group, templates_check, count_check}
use Rattle.inside.specs.Inside.{group_here, as_one, file_tree, behind_file, look_inside}
use Rattle.inside.specs.Inside as file
use Rattle.inside.proofs.Tags.{tag_one}
use Rattle.inside.proofs.Heads.{group_one_lem}
use Rattle.inside.proofs.Tallies.{directly_next, directly_done}
use Rattle.text_theorems.specs.Ordered.{FirstFailing}
use Rattle.text_theorems.proofs.FirstOf.{first_of, first_append, first_failing, failing_first}
use Rattle.row_theorems.specs.Standing.{coded, each}
use Rattle.row_theorems.proofs.Rows.{element_row}
use Rattle.inside_theorems.specs.InsideChecks.{head_checks, up_to, element_checks, tree_checks, template_checks, count_checks}
use Rattle.inside_theorems.specs.InsideChecks.{inside_checks}
use Rattle.inside_theorems.proofs.Views.{here_value, tree_head}
use Rattle.inside_theorems.proofs.Acceptance.{is_group_lem}

-- ---- what joined steps decide

then_first : {A B : Type 0} (m : Read A) (go : A → Read B) (o : Outcome) → ((a : A) → m ≡ value a → outcome_in (go a) ≡ o)
    → outcome_in (and_then m go) ≡ or_else (outcome_in m) o
unfolding outcome_in and_then
then_first (value a) go o h = h a refl
then_first (refusal n p) go o h = refl

value_passed : {A : Type 0} (m : Read A) (a : A) → m ≡ value a → outcome_in m ≡ passed
unfolding outcome_in
value_passed m a e = rw e

-- a rule of five parts is five rows
five_rows : (a b c d e : Bool) (n p : ℕ)
    → unless (a && (b && (c && (d && e)))) n p
    ≡ or_else (unless a n p)
    (or_else (unless b n p) (or_else (unless c n p) (or_else (unless d n p) (or_else (unless e n p) passed))))
five_rows false b c d e n p = refl
five_rows true false c d e n p = refl
five_rows true true false d e n p = refl
five_rows true true true false e n p = refl
five_rows true true true true e n p = sym (or_else_passed (unless e n p))

element_outcome : (s : List ℕ) (at tag : ℕ) → outcome_in (element s at tag) ≡ coded s at tag
unfolding outcome_in
element_outcome s at tag = ap outcome_in (element_row s at tag) ∙ checked_outcome (coded s at tag) _ ∙ or_else_passed _

-- ---- an element

head_rows : (s : List ℕ) (at : ℕ) → outcome_in (here s at) ≡ first_of (head_checks s at)
unfolding here head_checks first_of outcome_in
head_rows s at = go (is_tag_here s at)
  where
    go : (b : Bool)
        → outcome_in (cond b (element s at (tag_here s at)) (refusal (by 10) at))
        ≡ or_else (unless b 10 at) (or_else (coded s at (tag_here s at)) passed)
    go true = element_outcome s at (tag_here s at) ∙ sym (or_else_passed _)
    go false = refl

-- ---- a list of elements, once each of them is known

module _ (d : ℕ) (one-rows : (s : List ℕ) (at : ℕ) → outcome_in (tree_at d s at) ≡ first_of (element_checks d s at))
    (s : List ℕ) where
  abbrev rows : ℕ → List Outcome
  rows at = each (element_checks d s) (directly s at)

  ended : (at : ℕ) → length s ≤ at → outcome_in (forest (tree_at d) s at) ≡ first_of (rows at)
  unfolding outcome_in first_of each
  ended at h = rw (forest_done (tree_at d) s at h, directly_done s at h)

  -- the rows of an element, and then those behind it
  rows_next : (at : ℕ) → at < length s
      → first_of (rows at) ≡ or_else (outcome_in (tree_at d s at)) (first_of (rows (value_here s at).to))
  unfolding each
  rows_next at h =
      ap (λ (l : List ℕ). first_of (each (element_checks d s) l)) (directly_next s at h)
      ∙ first_append (element_checks d s at) _
      ∙ rw (one-rows s at)

  behind : (at : ℕ) (t : Found) → tree_at d s at ≡ value t → at < t.to
  behind at t e = (tree_bound d s at t e).some_octets

  forest_rows : (n at : ℕ) → length s ≤ at + n → outcome_in (forest (tree_at d) s at) ≡ first_of (rows at)
  unfolding outcome_in before
  forest_rows zero at h = ended at (omega arith)
  forest_rows (suc n) at h = go (leb (length s) at) refl (tree_at d s at) refl
      (λ p k. forest_rows n p (omega arith))
    where
      more : at < length s → (m : Read Found) → tree_at d s at ≡ m
          → ((p : ℕ) → at < p → outcome_in (forest (tree_at d) s p) ≡ first_of (rows p))
          → outcome_in (forest (tree_at d) s at) ≡ or_else (outcome_in m) (first_of (rows (value_here s at).to))
      more k (value t) e ih =
          let next = forest_next (tree_at d) s behind at t k e in
          let end = (tree_head s at d t e).same_end in
          ap outcome_in next ∙ told_then (forest (tree_at d) s t.to) (λ (f : Forest). forests.more t.tree f)
          ∙ ih t.to (behind at t e) ∙ ap (λ (p : ℕ). first_of (rows p)) end
      more k (refusal a p) e ih = rw (forest_refused (tree_at d) s behind at a p k e)

      go : (b : Bool) → leb (length s) at ≡ b → (m : Read Found) → tree_at d s at ≡ m
          → ((p : ℕ) → at < p → outcome_in (forest (tree_at d) s p) ≡ first_of (rows p))
          → outcome_in (forest (tree_at d) s at) ≡ first_of (rows at)
      go true q m e ih = ended at (leb-true (length s) at q)
      go false q m e ih =
          let k = leb-false (length s) at q in
          more k m e ih ∙ rw (← e) (sym (rows_next at k))

-- ---- a tree

-- what an element is, where its head is right
inside_rows : (d : ℕ) → ((s : List ℕ) (at : ℕ) → outcome_in (tree_at d s at) ≡ first_of (element_checks d s at))
    → (s : List ℕ) (at : ℕ) (v : Stretch) → here s at ≡ value v
    → outcome_in (inside (tree_at d) s at v)
    ≡ first_of (cond (is_constructed (get_or s at 0)) (each (element_checks d (up_to s at)) (directly (up_to s at)
    (value_here s at).from)) [])
unfolding inside up_to outcome_in first_of
inside_rows d one-rows s at v e = rw (here_value s at v e) (go (is_constructed (get_or s at 0)))
  where
    go : (b : Bool)
        → outcome_in {A = Found} (cond b
        (and_then (forest (tree_at d) (take v.to s) v.from) (λ (f : Forest).
        value (record { tree = holds (tag_here s at) f; to = v.to })))
        (value (record { tree = one (tag_here s at) (cut s v); to = v.to })))
        ≡ first_of (cond b (each (element_checks d (take v.to s)) (directly (take v.to s) v.from)) [])
    go true =
        told_then (forest (tree_at d) (take v.to s) v.from)
        (λ (f : Forest). record { tree = holds (tag_here s at) f; to = v.to })
        ∙ forest_rows d one-rows (take v.to s) (length (take v.to s)) v.from (omega arith)
    go false = refl

tree_rows : (d : ℕ) (s : List ℕ) (at : ℕ) → outcome_in (tree_at d s at) ≡ first_of (element_checks d s at)
unfolding tree_at element_checks outcome_in first_of
tree_rows zero s at =
    then_first (here s at) (λ (v : Stretch). refusal (by 21) at) (refused (by 21) at) (λ v e. refl)
    ∙ rw (head_rows s at) (sym (first_append (head_checks s at) (refused (by 21) at ∷ [])))
tree_rows (suc d) s at =
    then_first (here s at) (inside (tree_at d) s at) _ (inside_rows d (tree_rows d) s at)
    ∙ rw (head_rows s at) (sym (first_append (head_checks s at) _))

-- ---- a file

-- the count of templates
template_rows : (group : ℕ) (s : List ℕ) (at : ℕ) → templates_check group s at ≡ first_of (template_checks group s at)
unfolding templates_check template_checks count_holds up_to first_of
template_rows group s at =
    let first = first_group s at in
    let held = up_to s first in
    let from = (value_here s first).from in
    let n = get_or held (from + 2) 0 in
    five_rows (not (eqb first 0)) (eqb (get_or held from 0) 0x02) (eqb (get_or held (from + 1) 0) 0x01)
    (eqb n (length (with_tag held template (directly held from)))) (leb 3 group || not (eqb n 0)) 22 first

count_rows : (s : List ℕ) → count_check (group_here s) s (value_here s 0).from ≡ first_of (count_checks s)
unfolding count_check count_checks first_of
count_rows s = go (leb 2 (group_here s) && leb (group_here s) 4)
  where
    go : (b : Bool)
        → cond b (templates_check (group_here s) s (value_here s 0).from) passed
        ≡ first_of (cond b (template_checks (group_here s) s (value_here s 0).from) [])
    go true = template_rows (group_here s) s (value_here s 0).from
    go false = refl

module _ (s : List ℕ) where
  abbrev tag : ℕ
  tag = get_or s 0 0

  -- the file's tree, and where it ends
  file_rows : outcome_in (cond (eqb (group_here s) 13) (as_one s) (tree_at 8 s 0)) ≡ first_of (tree_checks s)
  unfolding tree_checks as_one first_of
  file_rows = go (eqb (group_here s) 13)
    where
      go : (b : Bool)
          → outcome_in {A = Found} (cond b (and_then (element s 0 tag) (λ (v : Stretch).
          value (record { tree = one tag (cut s v); to = v.to }))) (tree_at 8 s 0))
          ≡ first_of (cond b (coded s 0 tag ∷ []) (element_checks 8 s 0))
      go true =
          told_then (element s 0 tag) (λ (v : Stretch). record { tree = one tag (cut s v); to = v.to })
          ∙ element_outcome s 0 tag ∙ sym (or_else_passed _)
      go false = tree_rows 8 s 0

  file_end : is_group tag ≡ true → (t : Found) → cond (eqb (group_here s) 13) (as_one s) (tree_at 8 s 0) ≡ value t
      → t.to ≡ (value_here s 0).to
  unfolding as_one value_here
  file_end g t e = go (eqb (group_here s) 13) e
    where
      go : (b : Bool)
          → cond b (and_then (element s 0 tag) (λ (v : Stretch). value (record { tree = one tag (cut s v); to = v.to })))
          (tree_at 8 s 0) ≡ value t
          → t.to ≡ (value_here s 0).to
      go true q =
          let a = first_value (element s 0 tag) (λ (v : Stretch). value (record { tree = one tag (cut s v); to = v.to })) t q in
          let there = stretch_read s 0 tag a.0 a.1 in
          rw (tag_one s 0 (group_one_lem tag (is_group_lem tag g)), there) (sym (ap (λ (x : Found). x.to) (same_value a.2)))
      go false q = (tree_head s 0 8 t q).same_end

  inside_rows_all : outcome_in (file.inside s) ≡ first_of (inside_checks s)
  unfolding file.inside file_tree behind_file end_check inside_checks first_of outcome_in and_then
  inside_rows_all = go (is_group tag) refl
    where
      last : (t : Found) → t.to ≡ (value_here s 0).to
          → outcome_in (checked (behind_file s t.to) (value t.tree))
          ≡ first_of (unless (eqb (value_here s 0).to (length s)) 10 (value_here s 0).to ∷ count_checks s)
      last t e =
          checked_outcome (behind_file s t.to) (value t.tree) ∙ or_else_passed (behind_file s t.to)
          ∙ rw (e, count_rows s)

      go : (b : Bool) → is_group tag ≡ b
          → outcome_in (and_then (cond b (cond (eqb (group_here s) 13) (as_one s) (tree_at 8 s 0)) (refusal (by 10) 0))
          (λ (t : Found). checked (behind_file s t.to) (value t.tree)))
          ≡ or_else (unless b 10 0)
          (first_of (tree_checks s ++ (unless (eqb (value_here s 0).to (length s)) 10 (value_here s 0).to ∷ count_checks s)))
      go true g =
          then_first (cond (eqb (group_here s) 13) (as_one s) (tree_at 8 s 0)) _ _ (λ t e. last t (file_end g t e))
          ∙ rw file_rows (sym (first_append (tree_checks s) _))
      go false g = refl

pub look_first : (s : List ℕ) → outcome_in (look_inside s) ≡ first_of (inside_checks s)
unfolding look_inside
look_first s = told_then (file.inside s) elements ∙ inside_rows_all s

pub inside_refused_exactly : (s : List ℕ) (n : Why) (p : ℕ) → (look_inside s ≡ refusal n p) ↔ FirstFailing (inside_checks s) n p
unfolding outcome_in
inside_refused_exactly s n p = (
  λ e. first_failing (inside_checks s) n p (sym (look_first s) ∙ ap outcome_in e),
  λ h. refusal_told (look_inside s) n p (look_first s ∙ failing_first (inside_checks s) n p h),
)
