-- The count of templates: document 02, request 2026-10, whose words are those in quotes. It is asked for after all of 10 and 21,
-- of elements that are rightly coded, so that places are told by the lengths that stand there.
use Rattle.std.specs.Prelude.{ℕ, ◌+◌, Bool, cond, not, ◌&&◌, ◌||◌, List, [], ◌∷◌, eqb, leb, length, take, get_or}
use Rattle.refusal.specs.Outcome.{Outcome, passed, unless}
use Rattle.tlv.specs.declared.Stretch.{Stretch}
use Rattle.tlv.specs.Places.{stretch_at, places}
use Rattle.tree.specs.Tag.{tag_here}

-- "the first 7F61", "templates 7F60"
abbrev pub template_group : ℕ
template_group = 0x7F61

abbrev pub template : ℕ
template = 0x7F60

-- where the value of the element that stands at a place stands
unfoldable pub value_here : List ℕ → ℕ → Stretch
value_here s at = stretch_at s at (tag_here s at)

-- the places of the elements "directly in" what holds them, from a place up to its end
unfoldable pub directly : List ℕ → ℕ → List ℕ
directly s at = places (λ (p : ℕ). (value_here s p).to) (length s) at

-- of these those that have a tag
unfoldable pub with_tag : List ℕ → (tag : ℕ) → List ℕ → List ℕ
with_tag s tag [] = []
with_tag s tag (at ∷ ps) = cond (eqb (tag_here s at) tag) (at ∷ with_tag s tag ps) (with_tag s tag ps)

-- "opens with a count (02 01 n) and directly holds exactly n templates 7F60; n of 0 is allowed in groups 3 and 4 only": of the
-- octets up to the end of 7F61, from where its value begins
unfoldable pub count_holds : (group : ℕ) → List ℕ → ℕ → Bool
count_holds group s at =
    eqb (get_or s at 0) 0x02
    && (eqb (get_or s (at + 1) 0) 0x01
    && (eqb (get_or s (at + 2) 0) (length (with_tag s template (directly s at)))
    && (leb 3 group || not (eqb (get_or s (at + 2) 0) 0))))

-- the place of "the first 7F61 directly in the file", whose value begins at a place; 0, "the file's start where 7F61 is missing"
unfoldable pub first_group : List ℕ → ℕ → ℕ
first_group s at = get_or (with_tag s template_group (directly s at)) 0 0

-- "22, count wrong, at 7F61, or at the file's start where 7F61 is missing"
unfoldable pub templates_check : (group : ℕ) → List ℕ → ℕ → Outcome
templates_check group s at =
    let first = first_group s at in
    unless (not (eqb first 0) && count_holds group (take (value_here s first).to s) (value_here s first).from) 22 first

-- "For groups 2 to 4"
unfoldable pub count_check : (group : ℕ) → List ℕ → ℕ → Outcome
count_check group s at = cond (leb 2 group && leb group 4) (templates_check group s at) passed
