-- What a whole file of a group is, said with its tree and without the reader. The words in quotes are those of document 02,
-- request 2026-10.
use Rattle.std.specs.Prelude.{ℕ, suc, ◌≤◌, ◌≡◌, cond, List, [], ◌∷◌, eqb, length}
use Rattle.tlv.specs.Tags.{group_of}
use Rattle.tree.specs.Tree.{Tree, one, holds, Forest, empty, more, depth, Formed}

-- ---- the count of templates

unfoldable pub tag_of : Tree → ℕ
tag_of (one tag content) = tag
tag_of (holds tag held) = tag

-- how many of the elements "directly in" a list have a tag
unfoldable pub times_in : (tag : ℕ) → Forest → ℕ
times_in tag empty = 0
times_in tag (more t f) = cond (eqb (tag_of t) tag) (suc (times_in tag f)) (times_in tag f)

-- the elements from "the first" with a tag on, none where there is no such
unfoldable pub from_first : (tag : ℕ) → Forest → Forest
from_first tag empty = empty
from_first tag (more t f) = cond (eqb (tag_of t) tag) (more t f) (from_first tag f)

-- "the first 7F61 directly in the file opens with a count (02 01 n) and directly holds exactly n templates 7F60; n of 0 is
-- allowed in groups 3 and 4 only"
pub record CountRight (group : ℕ) (held : Forest) : Type 0 where
  pub n : ℕ
  pub rest : Forest
  pub behind : Forest
  pub opens : from_first 0x7F61 held ≡ more (holds 0x7F61 (more (one 0x02 (n ∷ [])) rest)) behind
  pub exactly : times_in 0x7F60 rest ≡ n
  pub some : group ≡ 2 → n ≡ 0 → ⊥

-- ---- a file

-- "group 13, whose inside is the State's own, counts as one element"
pub record OwnInside (tag : ℕ) (content : List ℕ) : Type 0 where
  pub thirteen : group_of tag ≡ 13
  pub content_most : length content ≤ 65535

-- "Any group's file is a tree": rightly formed, "to a depth of at most eight counting the file itself"; "For groups 2 to 4" the
-- count of its templates is right
pub record HoldsWhole (tag : ℕ) (held : Forest) : Type 0 where
  pub some_group : group_of tag ≡ 0 → ⊥
  pub not_thirteen : group_of tag ≡ 13 → ⊥
  pub formed : Formed (holds tag held)
  pub not_deeper : depth (holds tag held) ≤ 8
  pub count : 2 ≤ group_of tag → group_of tag ≤ 4 → CountRight (group_of tag) held

unfoldable pub Whole : Tree → Type 0
Whole (one tag content) = OwnInside tag content
Whole (holds tag held) = HoldsWhole tag held
