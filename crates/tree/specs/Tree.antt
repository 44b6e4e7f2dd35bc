-- A group's file as a tree: document 02, request 2026-10, "a constructed element holds a list of elements, and each of those may
-- hold a list again".
use Rattle.std.specs.Prelude.{ℕ, suc, ◌+◌, ◌≤◌, max, ◌≡◌, true, false, List, [], ◌++◌, length}
use Rattle.tlv.specs.Element.{tlv}
use Rattle.tree.specs.Tag.{is_constructed, first_octet, is_tag}

mutual
  -- an element that counts as one, with the octets of its value; or one that holds others
  pub data Tree : Type 0 where
    one : (tag : ℕ) (content : List ℕ) → Tree
    holds : (tag : ℕ) (held : Forest) → Tree

  -- elements one behind the other
  pub data Forest : Type 0 where
    empty : Forest
    more : (first : Tree) (rest : Forest) → Forest

-- its octets: tag, length and value of each element
unfoldable mutual
  pub tree_octets : Tree → List ℕ
  tree_octets (one tag content) = tlv tag content
  tree_octets (holds tag held) = tlv tag (forest_octets held)

  pub forest_octets : Forest → List ℕ
  forest_octets empty = []
  forest_octets (more t f) = tree_octets t ++ forest_octets f

-- "a depth .. counting the file itself"
unfoldable mutual
  pub depth : Tree → ℕ
  depth (one tag content) = 1
  depth (holds tag held) = suc (deepest held)

  pub deepest : Forest → ℕ
  deepest empty = 0
  deepest (more t f) = max (depth t) (deepest f)

-- "the number of elements, defined from the tree"
unfoldable mutual
  pub elements : Tree → ℕ
  elements (one tag content) = 1
  elements (holds tag held) = suc (all_elements held)

  pub all_elements : Forest → ℕ
  all_elements empty = 0
  all_elements (more t f) = elements t + all_elements f

-- rightly formed: tags as said, constructed exactly where an element holds others, and lengths that can be told
unfoldable mutual
  pub Formed : Tree → Type 0
  Formed (one tag content) = (is_tag tag ≡ true) × (is_constructed (first_octet tag) ≡ false) × (length content ≤ 65535)
  Formed (holds tag held) =
      (is_tag tag ≡ true) × (is_constructed (first_octet tag) ≡ true) × (length (forest_octets held) ≤ 65535) × AllFormed held

  pub AllFormed : Forest → Type 0
  AllFormed empty = Unit {0}
  AllFormed (more t f) = Formed t × AllFormed f
