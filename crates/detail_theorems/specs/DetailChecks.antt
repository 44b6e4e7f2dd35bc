-- The checks of a file of group 11 one after the other, a row for each sentence that can refuse: document 02, request 2026-01,
-- whose words are those in quotes. Which of them a refusal names is `FirstFailing` (text_theorems). Every row is said of the
-- octets; where one fails, those behind it decide nothing.
use Rattle.std.specs.Prelude.{ℕ, false, List, [], ◌∷◌, ◌++◌, eqb, length, take}
use Rattle.refusal.specs.Outcome.{Outcome, unless}
use Rattle.tlv.specs.declared.Stretch.{Stretch}
use Rattle.tlv.specs.Cut.{cut}
use Rattle.tlv.specs.Places.{stretch_at, places}
use Rattle.tlv.specs.Tags.{tag_list}
use Rattle.details.specs.Tags.{group_tag, stands_for, tag_here, is_detail, tags_in}
use Rattle.details.specs.Details.{is_list}
use Rattle.row_theorems.specs.Standing.{coded, each}

-- ---- where everything stands, as the lengths say

abbrev pub file_here : List ℕ → Stretch
file_here s = stretch_at s 0 group_tag

-- the octets up to the file's end
abbrev pub up_to : List ℕ → List ℕ
up_to s = take (file_here s).to s

abbrev pub list_here : List ℕ → Stretch
list_here s = stretch_at (up_to s) (file_here s).from tag_list

abbrev pub value_here : List ℕ → ℕ → Stretch
value_here s at = stretch_at s at (tag_here s at)

-- the places of the elements
abbrev pub element_places : List ℕ → List ℕ
element_places s = places (λ at. (value_here (up_to s) at).to) (length (up_to s)) (list_here s).to

-- ---- the rows

-- "10 as before, also for an element whose tag is none of these or A0"
unfoldable pub element_checks : List ℕ → ℕ → List Outcome
element_checks s at = unless (is_detail s at) 10 at ∷ coded s at (tag_here s at) ∷ []

-- "then elements that differ from it, at the first, or at the file's end if one is missing"
unfoldable pub turn_checks : (end : ℕ) → List ℕ → (named places : List ℕ) → List Outcome
turn_checks end s [] [] = []
turn_checks end s [] (p ∷ ps) = unless false 20 p ∷ []
turn_checks end s (t ∷ ts) [] = unless false 20 end ∷ []
turn_checks end s (t ∷ ts) (p ∷ ps) = unless (eqb (tag_here s p) (stands_for t)) 20 p ∷ turn_checks end s ts ps

-- "20, after 10 for the whole group: a list not as said, at 5C"; nothing follows the file
unfoldable pub group_checks : List ℕ → List Outcome
group_checks s =
    coded s 0 group_tag
    ∷ coded (up_to s) (file_here s).from tag_list
    ∷ (each (element_checks (up_to s)) (element_places s)
    ++ (unless (eqb (file_here s).to (length s)) 10 (file_here s).to
    ∷ unless (is_list (cut s (list_here s))) 20 (file_here s).from
    ∷ turn_checks (length s) (up_to s) (tags_in (cut s (list_here s))) (element_places s)))
