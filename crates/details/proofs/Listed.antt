-- The tags of a list, two octets at a time, and which of them were named before: marked by their second octet.
use Prim.Native.Nat.{ℕ, min, ◌+◌, ◌*◌, ◌≤◌, ◌<◌}
use mathlib.Core.Path.{◌≡◌, refl, ◌∙◌}
use mathlib.Core.Bool.{Bool, true, false, ◌&&◌, ◌||◌, false≢true}
use mathlib.Core.List.{List, [], ◌∷◌, ◌++◌}
use native.Mathlib.Nat.{add-zero}
use native.Mathlib.Omega.{arith}
use borrow.Author.Tests.{leb-true, eqb-true, eqb-false, eq-eqb, ne_eqb}
use lib.Dec.{eqb, leb}
use lib.ListN.{length, get_or, set, replicate}
use Rattle.std.proofs.lemmas.List.{nil_from_length}
use Rattle.lent.specs.Octets.{stands}
use Rattle.lent.proofs.Bools.{and_both}
use Rattle.lent.proofs.Marks.{Marks, none_marked, one_marked, unmarked, marked}
use Rattle.details.specs.Tags.{is_named, tags_in}
use Rattle.details.specs.Details.{are_named, is_list}

-- ---- two octets at a time

-- what two octets are, or one
abbrev pub tag_of : List ℕ → ℕ
tag_of pair = get_or pair 0 0 * 256 + get_or pair 1 0

pub tags_next : (pair after : List ℕ) → length pair ≡ min 2 (length (pair ++ after)) → 0 < length (pair ++ after)
    → tags_in (pair ++ after) ≡ tag_of pair ∷ tags_in after
unfolding tags_in
tags_next [] after e h = absurd (omega (arith, e, h))
tags_next (a ∷ []) after e h =
    let none : after ≡ [] = nil_from_length after (omega (arith, e)) in
    rw (none, add-zero (a * 256))
tags_next (a ∷ b ∷ []) after e h = refl
tags_next (a ∷ b ∷ c ∷ pair) after e h = absurd (omega (arith, e))

-- what a piece of the list says, by what `chunks` tells of it
pub tags_step : (size : ℕ) (rest pair after : List ℕ) → size ≡ 2
    → (rest ≡ pair ++ after) × (length pair ≡ min size (length rest)) × (0 < length rest)
    → tags_in rest ≡ tag_of pair ∷ tags_in after
tags_step size rest pair after two h = rw h.0 (tags_next pair after (rw (two, h.0) at h.1) (rw h.0 at h.2))

pub tags_done : (rest : List ℕ) → length rest ≡ 0 → tags_in rest ≡ []
unfolding tags_in
tags_done rest h = rw (nil_from_length rest h)

-- ---- named before

-- a tag that may be named is between the first and the last of them
pub named_between : (t : ℕ) → is_named t ≡ true → (0x5F0E ≤ t) × (t ≤ 0x5F42)
unfolding is_named
named_between t e = go (leb 0x5F0E t && leb t 0x5F18) refl (eqb t 0x5F2B) refl (eqb t 0x5F42) refl e
  where
    go : (p : Bool) → leb 0x5F0E t && leb t 0x5F18 ≡ p → (q : Bool) → eqb t 0x5F2B ≡ q → (r : Bool) → eqb t 0x5F42 ≡ r
        → p || (q || r) ≡ true → (0x5F0E ≤ t) × (t ≤ 0x5F42)
    go true k q l r m f =
        let both = and_both (leb 0x5F0E t) (leb t 0x5F18) k in
        (leb-true 0x5F0E t both.0, omega (arith, leb-true t 0x5F18 both.1))
    go false k true l r m f = (omega (arith, eqb-true t 0x5F2B l), omega (arith, eqb-true t 0x5F2B l))
    go false k false l true m f = (omega (arith, eqb-true t 0x5F42 m), omega (arith, eqb-true t 0x5F42 m))
    go false k false l false m f = absurd (false≢true f)

-- and so is 5F and its second octet
pub named_low : (a b : ℕ) → b < 256 → is_named (a * 256 + b) ≡ true → a * 256 + b ≡ 0x5F00 + b
named_low a b h e = let k = named_between (a * 256 + b) e in omega (arith, h, k.0, k.1)

-- tags by their second octets
unfoldable pub tagged : List ℕ → List ℕ
tagged [] = []
tagged (c ∷ l) = (0x5F00 + c) ∷ tagged l

stands_tagged : (d : ℕ) (l : List ℕ) → stands (0x5F00 + d) (tagged l) ≡ stands d l
unfolding stands tagged
stands_tagged d [] = refl
stands_tagged d (c ∷ l) = go (eqb d c) refl (stands_tagged d l)
  where
    go : (b : Bool) → eqb d c ≡ b → stands (0x5F00 + d) (tagged l) ≡ stands d l
        → eqb (0x5F00 + d) (0x5F00 + c) || stands (0x5F00 + d) (tagged l) ≡ b || stands d l
    go true e ih = rw (eq-eqb (0x5F00 + d) (0x5F00 + c) (omega (arith, eqb-true d c e)))
    go false e ih = let k = eqb-false d c e in rw (ne_eqb (0x5F00 + d) (0x5F00 + c) (λ z. k (omega (arith, z)))) ih

-- ---- what is left of a list decides, and the table marks what was named before

pub record Listing (tags table rest : List ℕ) : Type 0 where
  pub lows : List ℕ
  pub marks : Marks 256 table lows
  pub left : are_named (tagged lows) (tags_in rest) ≡ is_list tags

pub listing_start : (tags : List ℕ) → Listing tags (replicate 256 0) tags
unfolding is_list tagged
listing_start tags = record { lows = []; marks = none_marked 256; left = refl }

module _ (tags table rest : List ℕ) (l : Listing tags table rest) where
  pub listing_end : tags_in rest ≡ [] → true ≡ is_list tags
  unfolding are_named
  listing_end h = rw h at l.left

  -- the next of them
  module _ (pair after : List ℕ) (n : tags_in rest ≡ tag_of pair ∷ tags_in after) where
    pub listing_foreign : is_named (tag_of pair) ≡ false → false ≡ is_list tags
    unfolding are_named
    listing_foreign e = rw (n, e) at l.left

    module _ (b : get_or pair 1 0 < 256) (e : is_named (tag_of pair) ≡ true) where
      pub listing_twice : (get_or table (get_or pair 1 0) 0 ≡ 0 → ⊥) → false ≡ is_list tags
      unfolding are_named
      listing_twice m =
          let low = get_or pair 1 0 in
          let k = named_low (get_or pair 0 0) low b e in
          let t = stands_tagged low l.lows ∙ marked 256 table l.lows low l.marks b m in
          rw (n, e, k, t) at l.left

      pub listing_more : length table ≡ 256 → get_or table (get_or pair 1 0) 0 ≡ 0
          → Listing tags (set table (get_or pair 1 0) 1) after
      unfolding are_named tagged
      listing_more len m =
          let low = get_or pair 1 0 in
          let k = named_low (get_or pair 0 0) low b e in
          let t = stands_tagged low l.lows ∙ unmarked 256 table l.lows low l.marks b m in
          record {
            lows = low ∷ l.lows;
            marks = one_marked 256 table l.lows low 1 l.marks len b (omega arith);
            left = rw (n, e, k, t) at l.left;
          }
