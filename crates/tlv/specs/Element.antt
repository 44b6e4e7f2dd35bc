-- Elements: document 01, "Stages of a presentation". Tags as named, lengths definite and shortest: 00-7F, 81 80-FF, 82 0100-FFFF.
use Rattle.std.specs.Prelude.{Option, Some, None}
use Rattle.tlv.specs.declared.Count.{Count}
use Rattle.std.specs.Prelude.{ℕ, ◌+◌, ◌*◌, ◌/◌, ◌%◌, cond, ◌&&◌, List, [], ◌∷◌, ◌++◌, eqb, leb, ltb, length, get_or}
use Rattle.refusal.specs.Numbers.{by}
use Rattle.tlv.specs.declared.Stretch.{Stretch}
use Rattle.tlv.specs.Read.{Read, value, refusal}

-- ---- encoding

-- a tag of one octet, or of two
unfoldable pub tag_octets : ℕ → List ℕ
tag_octets tag = cond (ltb tag 256) (tag ∷ []) ((tag / 256) ∷ (tag % 256) ∷ [])

-- 00-7F, 81 80-FF, 82 0100-FFFF
unfoldable pub length_octets : ℕ → List ℕ
length_octets n = cond (leb n 0x7F) (n ∷ []) (cond (leb n 255) (0x81 ∷ n ∷ []) (0x82 ∷ (n / 256) ∷ (n % 256) ∷ []))

unfoldable pub tlv : ℕ → List ℕ → List ℕ
tlv tag content = tag_octets tag ++ (length_octets (length content) ++ content)

-- ---- reading

-- the length that stands at a place, by its first three octets, and how many of them tell it
unfoldable pub size_of : (a b c : ℕ) → Option Count
size_of a b c =
    cond (leb a 0x7F) (Some (record { count = a; told = 1 }))
    (cond (eqb a 0x81 && leb 0x80 b) (Some (record { count = b; told = 2 }))
    (cond (eqb a 0x82 && leb 1 b) (Some (record { count = b * 256 + c; told = 3 })) None))

-- the octets of a tag
unfoldable pub tag_width : ℕ → ℕ
tag_width tag = cond (ltb tag 256) 1 2

-- the tag that stands at a place, as many octets as the named one has
unfoldable pub tag_at : List ℕ → ℕ → ℕ → ℕ
tag_at s at tag = cond (ltb tag 256) (get_or s at 0) (get_or s at 0 * 256 + get_or s (at + 1) 0)

-- the octets from the one place to the other, if they end within what holds them; else 10 at the element's tag
unfoldable pub ends_within : List ℕ → (at from to : ℕ) → Read Stretch
ends_within s at from to = cond (leb to (length s)) (value (record { from = from; to = to })) (refusal (by 10) at)

unfoldable pub sized : List ℕ → (at place : ℕ) → Option Count → Read Stretch
sized s at place (Some z) = ends_within s at (place + z.told) (place + z.told + z.count)
sized s at place None = refusal (by 10) at

unfoldable pub size_at : List ℕ → ℕ → Option Count
size_at s place = size_of (get_or s place 0) (get_or s (place + 1) 0) (get_or s (place + 2) 0)

-- the value of the element that stands at a place, behind a tag of so many octets, whatever tag that is; or 10 there
unfoldable pub behind_tag : List ℕ → (at width : ℕ) → Read Stretch
behind_tag s at width = sized s at (at + width) (size_at s (at + width))

-- the value of the element with this tag that stands at a place of what holds it, or 10 there
unfoldable pub element : List ℕ → (at tag : ℕ) → Read Stretch
element s at tag = cond (eqb (tag_at s at tag) tag) (sized s at (at + tag_width tag) (size_at s (at + tag_width tag)))
    (refusal (by 10) at)
