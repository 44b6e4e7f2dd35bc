-- Tags in a group's file: document 02, request 2026-10, whose words are those in quotes.
use Rattle.std.specs.Prelude.{ℕ, ◌+◌, ◌*◌, ◌/◌, ◌%◌, Bool, cond, not, ◌&&◌, ◌||◌, List, eqb, leb, ltb, get_or}

-- "A tag is constructed when its first octet's bit of value 32 is set"
unfoldable pub is_constructed : (first : ℕ) → Bool
is_constructed first = eqb (first / 32 % 2) 1

-- "it has two octets when the low five bits are all ones"
unfoldable pub has_second : (first : ℕ) → Bool
has_second first = eqb (first % 32) 31

-- "the second being 00 to 7F"
unfoldable pub is_second : (second : ℕ) → Bool
is_second second = leb second 0x7F

-- the tag that stands at a place, and whether it is one
unfoldable pub tag_here : List ℕ → ℕ → ℕ
tag_here s at = cond (has_second (get_or s at 0)) (get_or s at 0 * 256 + get_or s (at + 1) 0) (get_or s at 0)

unfoldable pub is_tag_here : List ℕ → ℕ → Bool
is_tag_here s at = not (has_second (get_or s at 0)) || is_second (get_or s (at + 1) 0)

-- the same of a tag as a number, its octets one behind the other
unfoldable pub first_octet : (tag : ℕ) → ℕ
first_octet tag = cond (ltb tag 256) tag (tag / 256)

unfoldable pub is_tag : (tag : ℕ) → Bool
is_tag tag =
    cond (ltb tag 256) (not (has_second tag)) (ltb tag 65536 && (has_second (tag / 256) && is_second (tag % 256)))
