-- Group 11, additional personal details (source document 000, 6.11): document 02, request 2026-01, whose words are those in
-- quotes: "tag 6B, a list 5C of tags among 5F0E to 5F18, 5F2B and 5F42, none twice, then the elements it names, in its order".
use Rattle.std.specs.Prelude.{ℕ, zero, suc, Bool, true, cond, not, ◌&&◌, List, [], ◌∷◌, eqb, leb, length, take}
use Rattle.lent.specs.Octets.{stands}
use Rattle.refusal.specs.Numbers.{by}
use Rattle.refusal.specs.Outcome.{Outcome, passed, refused, unless}
use Rattle.tlv.specs.declared.Stretch.{Stretch}
use Rattle.tlv.specs.Read.{Read, value, refusal, and_then, checked}
use Rattle.tlv.specs.Element.{element}
use Rattle.tlv.specs.Cut.{cut, end_check}
use Rattle.tlv.specs.Tags.{tag_list}
use Rattle.details.specs.Tags.{group_tag, template_tag, is_named, stands_for, asked_as, tag_here, is_detail, tags_in}

-- an element: its tag, where that stands, and its value
pub record Detail : Type 0 where
  pub tag : ℕ
  pub at : ℕ
  pub held : Stretch

-- the value of the one that stands at a place of what holds it, or 10 there
unfoldable pub detail_at : List ℕ → ℕ → Read Stretch
detail_at s at = cond (is_detail s at) (element s at (tag_here s at)) (refusal (by 10) at)

-- those from a place up to the end of what holds them; here at most so many steps, of which the last finds the end
unfoldable pub details_from : (steps : ℕ) → List ℕ → ℕ → Read (List Detail)
details_from zero s at = refusal (by 10) at
details_from (suc more) s at =
    cond (leb (length s) at) (value [])
    (and_then (detail_at s at) (λ v. and_then (details_from more s v.to)
    (λ rest. value (record { tag = tag_here s at; at = at; held = v } ∷ rest))))

-- no element is empty, so that there are no more of them than octets
unfoldable pub details : List ℕ → ℕ → Read (List Detail)
details s at = details_from (suc (length s)) s at

-- "tags among 5F0E to 5F18, 5F2B and 5F42, none twice", behind those that were named before
unfoldable pub are_named : (before : List ℕ) → List ℕ → Bool
are_named before [] = true
are_named before (t ∷ ts) = is_named t && (not (stands t before) && are_named (t ∷ before) ts)

unfoldable pub is_list : List ℕ → Bool
is_list list = are_named [] (tags_in list)

-- "then the elements it names, in its order": 20 for "elements that differ from it, at the first, or at the file's end if one is
-- missing"
unfoldable pub agrees : (end : ℕ) → List ℕ → List Detail → Outcome
agrees end [] [] = passed
agrees end [] (d ∷ ds) = refused (by 20) d.at
agrees end (t ∷ ts) [] = refused (by 20) end
agrees end (t ∷ ts) (d ∷ ds) = cond (eqb d.tag (stands_for t)) (agrees end ts ds) (refused (by 20) d.at)

-- "20, after 10 for the whole group: a list not as said, at 5C; then elements that differ from it"
unfoldable pub read_details : List ℕ → Read (List Detail)
read_details s =
    and_then (element s 0 group_tag) (λ v.
    and_then (element (take v.to s) v.from tag_list) (λ list.
    and_then (details (take v.to s) list.to) (λ ds.
    checked (end_check s v.to)
    (checked (unless (is_list (cut s list)) 20 v.from)
    (checked (agrees (length s) (tags_in (cut s list)) ds) (value ds))))))

-- "each element's value as a stretch of the lent file, A0 whole"
unfoldable pub given : Detail → Stretch
given d = cond (eqb d.tag template_tag) (record { from = d.at; to = d.held.to }) d.held

-- "asked for as 5F0F"; "empty where there is none"
unfoldable pub value_for : (asked : ℕ) → List Detail → Stretch
value_for asked [] = record { from = 0; to = 0 }
value_for asked (d ∷ ds) = cond (eqb (asked_as d.tag) asked) (given d) (value_for asked ds)

unfoldable pub read_detail : List ℕ → (asked : ℕ) → Read Stretch
read_detail s asked = and_then (read_details s) (λ ds. value (value_for asked ds))
