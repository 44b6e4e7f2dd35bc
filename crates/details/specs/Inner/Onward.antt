-- No words of the paper: the reading of group 11 as the code joins it, from the file on and from its list on.
use Rattle.std.specs.Prelude.{ℕ, List, length, take}
use Rattle.refusal.specs.Outcome.{Outcome, or_else, unless}
use Rattle.tlv.specs.declared.Stretch.{Stretch}
use Rattle.tlv.specs.Read.{Read, value, and_then, checked, outcome_in}
use Rattle.tlv.specs.Element.{element}
use Rattle.tlv.specs.Cut.{cut, end_check}
use Rattle.tlv.specs.Tags.{tag_list}
use Rattle.details.specs.Tags.{tags_in}
use Rattle.details.specs.Details.{details, is_list}
use Rattle.details.specs.Inner.Places.{agrees_at, value_at}

-- whether list and elements stand as said: all of 10, then 20 of the list, then 20 of the elements
abbrev pub list_check : List ℕ → (file list : Stretch) → Outcome
list_check s v list =
    or_else (outcome_in (details (take v.to s) list.to))
    (or_else (end_check s v.to)
    (or_else (unless (is_list (cut s list)) 20 v.from)
    (agrees_at (length s) (take v.to s) (tags_in (cut s list)) list.to)))

abbrev pub behind_list : List ℕ → (asked : ℕ) → (file list : Stretch) → Read Stretch
behind_list s asked v list =
    checked (list_check s v list) (value (value_at asked (take v.to s) (tags_in (cut s list)) list.to))

abbrev pub behind_file : List ℕ → (asked : ℕ) → (file : Stretch) → Read Stretch
behind_file s asked v = and_then (element (take v.to s) v.from tag_list) (λ list. behind_list s asked v list)
