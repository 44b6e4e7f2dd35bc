-- The inside of a group's file: document 02, request 2026-10, whose words are those in quotes.
use Rattle.std.specs.Prelude.{ℕ, cond, List, eqb, get_or}
use Rattle.refusal.specs.Numbers.{by}
use Rattle.refusal.specs.Outcome.{Outcome, or_else}
use Rattle.tlv.specs.declared.Stretch.{Stretch}
use Rattle.tlv.specs.Read.{Read, value, refusal, and_then, checked}
use Rattle.tlv.specs.Element.{element}
use Rattle.tlv.specs.Cut.{cut, end_check}
use Rattle.tlv.specs.Tags.{group_of, is_group}
use Rattle.tree.specs.Tree.{Tree, one, elements}
use Rattle.tree.specs.Reading.{Found, tree_at}
use Rattle.inside.specs.Templates.{value_here, count_check}

-- "a depth of at most eight counting the file itself"
abbrev pub most_deep : ℕ
most_deep = 8

-- the group is told by the file's tag, 0 where it is none's or there is nothing
unfoldable pub group_here : List ℕ → ℕ
group_here s = group_of (get_or s 0 0)

-- "group 13, whose inside is the State's own, counts as one element"
unfoldable pub as_one : List ℕ → Read Found
as_one s =
    and_then (element s 0 (get_or s 0 0)) (λ (v : Stretch). value (record { tree = one (get_or s 0 0) (cut s v); to = v.to }))

-- "Any group's file is a tree"; another tag is 10 at 0
unfoldable pub file_tree : List ℕ → Read Found
file_tree s = cond (is_group (get_or s 0 0)) (cond (eqb (group_here s) 13) (as_one s) (tree_at most_deep s 0)) (refusal (by 10) 0)

-- "every octet belongs to one element", so that nothing stands behind the file; "then 22"
unfoldable pub behind_file : List ℕ → (end : ℕ) → Outcome
behind_file s end = or_else (end_check s end) (count_check (group_here s) s (value_here s 0).from)

unfoldable pub inside : List ℕ → Read Tree
inside s = and_then (file_tree s) (λ (t : Found). checked (behind_file s t.to) (value t.tree))

-- "give the number of elements, defined from the tree"
unfoldable pub look_inside : List ℕ → Read ℕ
look_inside s = and_then (inside s) (λ (t : Tree). value (elements t))
