-- Element walker and list walker, together: the levels that are left fall from the element to the list that it holds. An element
-- is what its head and its list say; of a list what is left from here, with what was counted, is the same as the whole.
use Rattle.std.proofs.Common.{length, ◌-◌, ◌≡◌, ◌+◌, ◌*◌, ◌≤◌}
use Rattle.tree.specs.Inner.Passed.{counting}
use Rattle.tree.proofs.Walking.{plus}
use Rattle.tree.proofs.+element_list.Given as goal

abbrev pub decreases-element : goal.decreases-element
decreases-element l = 2 * l.levels

abbrev pub decreases-list : goal.decreases-list
decreases-list l = 2 * l.levels + 1

abbrev pub invariant-list-loop-at : goal.invariant-list-loop-at
invariant-list-loop-at l =
    (plus l.elements (counting l.levels l.s l.at) ≡ counting l.levels l.s l.start) × (l.elements ≤ l.at)

abbrev pub decreases-list-loop-at : goal.decreases-list-loop-at
decreases-list-loop-at l = length l.s - l.at
