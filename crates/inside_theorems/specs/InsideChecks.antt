-- The checks of a group's file one after the other, a row for each sentence that can refuse: document 02, request 2026-10, whose
-- words are those in quotes. Which of them a refusal names is `FirstFailing` (text_theorems). Every row is said of the octets;
-- where one fails, those behind it decide nothing.
use Rattle.std.specs.Prelude.{ℕ, zero, suc, ◌+◌, false, cond, not, ◌&&◌, ◌||◌}
use Rattle.std.specs.Prelude.{List, [], ◌∷◌, ◌++◌, eqb, leb, length, take, get_or}
use Rattle.refusal.specs.Outcome.{Outcome, unless}
use Rattle.tlv.specs.Tags.{is_group}
use Rattle.tree.specs.Tag.{is_constructed, tag_here, is_tag_here}
use Rattle.inside.specs.Templates.{template, value_here, directly, with_tag, first_group}
use Rattle.inside.specs.Inside.{group_here, most_deep}
use Rattle.row_theorems.specs.Standing.{coded, each}

-- ---- elements

-- 10 "at the element": "the second being 00 to 7F", and a length and a value as document 01 has them
unfoldable pub head_checks : List ℕ → ℕ → List Outcome
head_checks s at = unless (is_tag_here s at) 10 at ∷ coded s at (tag_here s at) ∷ []

-- the octets up to the end of the element at a place
unfoldable pub up_to : List ℕ → ℕ → List ℕ
up_to s at = take (value_here s at).to s

-- "whichever comes first from left to right, at the element, 10 before 21 there": an element and those that it holds, which may
-- be so many deep
unfoldable pub element_checks : (depth : ℕ) → List ℕ → ℕ → List Outcome
element_checks zero s at = head_checks s at ++ (unless false 21 at ∷ [])
element_checks (suc d) s at =
    head_checks s at
    ++ cond (is_constructed (get_or s at 0))
    (each (element_checks d (up_to s at)) (directly (up_to s at) (value_here s at).from)) []

-- "(group 13, whose inside is the State's own, counts as one element)"
unfoldable pub tree_checks : List ℕ → List Outcome
tree_checks s = cond (eqb (group_here s) 13) (coded s 0 (get_or s 0 0) ∷ []) (element_checks most_deep s 0)

-- ---- templates

-- 22 "at the file's start where 7F61 is missing"; "at 7F61" where it does not open "with a count (02 01 n)", does not hold
-- "exactly n templates 7F60", or n is 0 in another group than 3 and 4
unfoldable pub template_checks : (group : ℕ) → List ℕ → ℕ → List Outcome
template_checks group s at =
    let first = first_group s at in
    let held = up_to s first in
    let from = (value_here s first).from in
    let n = get_or held (from + 2) 0 in
    unless (not (eqb first 0)) 22 first
    ∷ unless (eqb (get_or held from 0) 0x02) 22 first
    ∷ unless (eqb (get_or held (from + 1) 0) 0x01) 22 first
    ∷ unless (eqb n (length (with_tag held template (directly held from)))) 22 first
    ∷ unless (leb 3 group || not (eqb n 0)) 22 first
    ∷ []

-- "For groups 2 to 4"
unfoldable pub count_checks : List ℕ → List Outcome
count_checks s =
    cond (leb 2 (group_here s) && leb (group_here s) 4) (template_checks (group_here s) s (value_here s 0).from) []

-- ---- all of them

-- the group's tag; the tree; "every octet belongs to one element", so that nothing stands behind the file; "then 22"
unfoldable pub inside_checks : List ℕ → List Outcome
inside_checks s =
    unless (is_group (get_or s 0 0)) 10 0
    ∷ (tree_checks s ++ (unless (eqb (value_here s 0).to (length s)) 10 (value_here s 0).to ∷ count_checks s))
