-- Tags of group 11: document 02, request 2026-01, whose words are those in quotes.
use Rattle.std.specs.Prelude.{ℕ, ◌+◌, ◌*◌, Bool, cond, ◌&&◌, ◌||◌, List, [], ◌∷◌, eqb, leb, get_or}

-- "tag 6B", "template A0"
abbrev pub group_tag : ℕ
group_tag = 0x6B

abbrev pub template_tag : ℕ
template_tag = 0xA0

abbrev pub full_name_tag : ℕ
full_name_tag = 0x5F0E

abbrev pub other_names_tag : ℕ
other_names_tag = 0x5F0F

-- "tags among 5F0E to 5F18, 5F2B and 5F42"
unfoldable pub is_named : ℕ → Bool
is_named tag = (leb 0x5F0E tag && leb tag 0x5F18) || (eqb tag 0x5F2B || eqb tag 0x5F42)

-- "template A0 stands where it names 5F0F"
unfoldable pub stands_for : ℕ → ℕ
stands_for named = cond (eqb named other_names_tag) template_tag named

-- and is "asked for as 5F0F"
unfoldable pub asked_as : ℕ → ℕ
asked_as tag = cond (eqb tag template_tag) other_names_tag tag

-- the tag that stands at a place: A0, or two octets
unfoldable pub tag_here : List ℕ → ℕ → ℕ
tag_here s at = cond (eqb (get_or s at 0) template_tag) template_tag (get_or s at 0 * 256 + get_or s (at + 1) 0)

-- else 10, "for an element whose tag is none of these or A0"
unfoldable pub is_detail : List ℕ → ℕ → Bool
is_detail s at = eqb (get_or s at 0) template_tag || is_named (tag_here s at)

-- what a list names, two octets a tag; one left over is no tag, as its second octet is none
unfoldable pub tags_in : List ℕ → List ℕ
tags_in [] = []
tags_in (a ∷ []) = a * 256 ∷ []
tags_in (a ∷ b ∷ l) = (a * 256 + b) ∷ tags_in l
