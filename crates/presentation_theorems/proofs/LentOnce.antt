-- That no group is lent twice, of a presentation whose files passed. It stands apart so that acceptance can be stated without
-- that rule, this fitted to it, and seen to be refused where the rule is used.
use mathlib.Core.Path.{◌≡◌}
use mathlib.Core.Bool.{true}
use mathlib.Core.List.{List, []}
use Rattle.presentation_theorems.specs.Presented.{Lent, is_once, tags_of}
use Rattle.presentation_theorems.proofs.NoneTwice.{once_after, once_none}

pub lent_once : (lent : List Lent) → once_after [] (tags_of lent) ≡ true
    → is_once (tags_of lent) ≡ true
lent_once lent e = once_none (tags_of lent) e
