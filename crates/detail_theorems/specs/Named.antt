-- What a file of group 11 is, said with its elements and without the reader. The words in quotes are those of document 02,
-- request 2026-01.
use Rattle.std.specs.Prelude.{ℕ, ◌+◌, ◌≤◌, ◌≡◌, true, cond, List, [], ◌∷◌, ◌++◌, map, eqb, length}
use Rattle.tlv.specs.declared.Stretch.{Stretch}
use Rattle.tlv.specs.Element.{tag_octets, length_octets, tlv}
use Rattle.tlv.specs.Tags.{tag_list}
use Rattle.details.specs.Tags.{group_tag, other_names_tag, stands_for}
use Rattle.details.specs.Details.{are_named}

-- an element: the tag that the list names it by, and what it holds
pub record Named : Type 0 where
  pub tag : ℕ
  pub content : List ℕ

abbrev pub tags_of : List Named → List ℕ
tags_of ns = map (λ (n : Named). n.tag) ns

-- "a list 5C of tags"
unfoldable pub list_octets : List Named → List ℕ
list_octets [] = []
list_octets (n ∷ ns) = tag_octets n.tag ++ list_octets ns

-- "template A0 stands where it names 5F0F"
unfoldable pub element_octets : Named → List ℕ
element_octets n = tlv (stands_for n.tag) n.content

-- "then the elements it names, in its order"
unfoldable pub elements_octets : List Named → List ℕ
elements_octets [] = []
elements_octets (n ∷ ns) = element_octets n ++ elements_octets ns

unfoldable pub group_content : List Named → List ℕ
group_content ns = tlv tag_list (list_octets ns) ++ elements_octets ns

-- "tag 6B"
unfoldable pub group_octets : List Named → List ℕ
group_octets ns = tlv group_tag (group_content ns)

-- "tags among 5F0E to 5F18, 5F2B and 5F42, none twice", and a length that document 01 can tell
pub record Right (ns : List Named) : Type 0 where
  pub named : are_named [] (tags_of ns) ≡ true
  pub content_most : length (group_content ns) ≤ 65535

-- ---- where an element stands

-- how many octets stand before a content
abbrev pub head : (tag : ℕ) → List ℕ → ℕ
head tag content = length (tag_octets tag) + length (length_octets (length content))

-- "each element's value as a stretch of the lent file, A0 whole"
unfoldable pub own_stretch : (at : ℕ) → Named → Stretch
own_stretch at n =
    cond (eqb n.tag other_names_tag)
    (record { from = at; to = at + length (element_octets n) })
    (record { from = at + head (stands_for n.tag) n.content; to = at + length (element_octets n) })

-- "asked for" by its tag among elements that begin at a place, "empty where there is none"
unfoldable pub stretch_from : (at asked : ℕ) → List Named → Stretch
stretch_from at asked [] = record { from = 0; to = 0 }
stretch_from at asked (n ∷ ns) =
    cond (eqb n.tag asked) (own_stretch at n) (stretch_from (at + length (element_octets n)) asked ns)

-- the elements begin behind the list
unfoldable pub elements_at : List Named → ℕ
elements_at ns = head group_tag (group_content ns) + length (tlv tag_list (list_octets ns))

unfoldable pub stretch_of : (asked : ℕ) → List Named → Stretch
stretch_of asked ns = stretch_from (elements_at ns) asked ns

-- what stands there
unfoldable pub given_octets : Named → List ℕ
given_octets n = cond (eqb n.tag other_names_tag) (element_octets n) n.content
