-- No words of the paper: how many elements were passed, and where the last of them ends.
use Rattle.std.specs.Prelude.{ℕ, List}
use Rattle.tlv.specs.Read.{Read, value, and_then}
use Rattle.tree.specs.declared.Passed.{Passed}
use Rattle.tree.specs.Tree.{Forest, elements, all_elements}
use Rattle.tree.specs.Reading.{Found, forest, tree_at}

-- of a tree its number of elements and its end
unfoldable pub passing : (depth : ℕ) → List ℕ → ℕ → Read Passed
passing d s at = and_then (tree_at d s at) (λ (t : Found). value (record { elements = elements t.tree; to = t.to }))

unfoldable pub counting : (depth : ℕ) → List ℕ → ℕ → Read ℕ
counting d s at = and_then (forest (tree_at d) s at) (λ (f : Forest). value (all_elements f))
