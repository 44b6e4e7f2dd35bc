-- Reading a tree: document 02, request 2026-10, "Check that every octet belongs to one element, to a depth of at most eight [..]
-- Refusals: 10 and 21 (too deep), whichever comes first from left to right, at the element, 10 before 21 there". Parents stand
-- before what they hold, so that the walk is from left to right.
use Rattle.std.specs.Prelude.{ℕ, zero, suc, cond, List, leb, length, take, get_or}
use Rattle.refusal.specs.Numbers.{by}
use Rattle.tlv.specs.declared.Stretch.{Stretch}
use Rattle.tlv.specs.Read.{Read, value, refusal, and_then}
use Rattle.tlv.specs.Element.{element}
use Rattle.tlv.specs.Cut.{cut}
use Rattle.tree.specs.Tag.{is_constructed, tag_here, is_tag_here}
use Rattle.tree.specs.Tree.{Tree, one, holds, Forest, empty, more}

-- the value of the element that stands at a place of what holds it, or 10 there
unfoldable pub here : List ℕ → ℕ → Read Stretch
here s at = cond (is_tag_here s at) (element s at (tag_here s at)) (refusal (by 10) at)

-- an element that was read, and where it ends
pub record Found : Type 0 where
  pub tree : Tree
  pub to : ℕ

-- the elements from a place up to the end of what holds them, each read in the same way; here at most so many steps, of which the
-- last finds the end
unfoldable pub forest_from : (List ℕ → ℕ → Read Found) → (steps : ℕ) → List ℕ → ℕ → Read Forest
forest_from elementAt zero s at = refusal (by 10) at
forest_from elementAt (suc k) s at =
    cond (leb (length s) at) (value empty)
    (and_then (elementAt s at) (λ (t : Found).
    and_then (forest_from elementAt k s t.to) (λ (f : Forest). value (more t.tree f))))

-- no element is empty, so that there are no more of them than octets
unfoldable pub forest : (List ℕ → ℕ → Read Found) → List ℕ → ℕ → Read Forest
forest elementAt s at = forest_from elementAt (suc (length s)) s at

-- what an element is: one that holds others, which end where it does, or one by itself
unfoldable pub inside : (List ℕ → ℕ → Read Found) → List ℕ → ℕ → Stretch → Read Found
inside elementAt s at v =
    cond (is_constructed (get_or s at 0))
    (and_then (forest elementAt (take v.to s) v.from) (λ (f : Forest).
    value (record { tree = holds (tag_here s at) f; to = v.to })))
    (value (record { tree = one (tag_here s at) (cut s v); to = v.to }))

-- the element that stands at a place, where it and what it holds may be so many deep
unfoldable pub tree_at : (depth : ℕ) → List ℕ → ℕ → Read Found
tree_at zero s at = and_then (here s at) (λ (v : Stretch). refusal (by 21) at)
tree_at (suc d) s at = and_then (here s at) (inside (tree_at d) s at)
