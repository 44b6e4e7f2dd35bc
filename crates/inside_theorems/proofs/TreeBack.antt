-- Where the encoding of a tree stands, the tree is read.
use Prim.Native.Nat.{ℕ, suc, ◌-◌, ◌≤◌}
use mathlib.Core.Path.{◌≡◌, refl, ap, sym, ◌∙◌}
use mathlib.Core.Bool.{true, false}
use mathlib.Core.List.{List, ◌++◌}
use native.Mathlib.Nat.{le_trans, le-max_left, le-max_right}
use native.Mathlib.Omega.{arith}
use lib.ListN.{length, take, drop, length-drop}
use Rattle.tlv.specs.declared.Stretch.{Stretch}
use Rattle.tlv.specs.Read.{value, and_then}
use Rattle.tlv.specs.Element.{tlv}
use Rattle.tlv.proofs.Encoded as encoded
use Rattle.tlv.proofs.Encoded.{Stands, back}
use Rattle.tlv.proofs.Standing.{cut_there}
use Rattle.tree.specs.Tag.{is_constructed, first_octet, is_tag}
use Rattle.tree.specs.Tree.{Tree, one, holds, Forest, empty, more, tree_octets, forest_octets, depth, deepest, Formed, AllFormed}
use Rattle.tree.specs.Reading.{here, forest, inside, tree_at}
use Rattle.tree.proofs.Bounds.{tree_bound}
use Rattle.tree.proofs.Walking.{before, forest_next, forest_done}
use Rattle.inside_theorems.proofs.TagOctets.{TagThere, tlv_there}

-- a tree that is read at a place, and what follows it
pub record Back (d : ℕ) (s : List ℕ) (at : ℕ) (t : Tree) (rest : List ℕ) : Type 0 where
  pub to : ℕ
  pub read : tree_at d s at ≡ value (record { tree = t; to = to })
  pub rest_there : drop to s ≡ rest

module _ (tag : ℕ) (c : List ℕ) (s : List ℕ) (at : ℕ) (rest : List ℕ) (right : is_tag tag ≡ true) (most : length c ≤ 65535)
    (e : drop at s ≡ tlv tag c ++ rest) where
  there : TagThere s at tag
  there = tlv_there s at tag c rest right e

  -- the head of an element that stands there
  head_there : (v : Stretch) × (here s at ≡ value v) × Stands s at tag c rest v
  unfolding here
  head_there =
      let k = back s at tag c rest most e in
      (k.0, rw (there.right, there.same_tag) k.1, k.2)

  -- an element that counts as one
  pub one_back : (d : ℕ) → 1 ≤ d → is_constructed (first_octet tag) ≡ false → Back d s at (one tag c) rest
  unfolding tree_at inside and_then
  one_back d deep plain =
      let h = head_there in
      let v = h.0 in
      let level : d ≡ suc (d - 1) = omega arith in
      record {
        to = v.to;
        read = rw (level, h.1, there.same_first, plain, there.same_tag, cut_there s at tag c rest v h.2);
        rest_there = h.2.rest_there;
      }

  -- one that holds others, once these are read
  pub holds_back : (d : ℕ) (f : Forest) → 1 ≤ d → is_constructed (first_octet tag) ≡ true → forest_octets f ≡ c
      → ((t : List ℕ) (p : ℕ) → drop p t ≡ forest_octets f → forest (tree_at (d - 1)) t p ≡ value f)
      → Back d s at (holds tag f) rest
  unfolding tree_at inside and_then
  holds_back d f deep holder same list =
      let h = head_there in
      let v = h.0 in
      let level : d ≡ suc (d - 1) = omega arith in
      let held = list (take v.to s) v.from (encoded.inside s at tag c rest v h.2 ∙ sym same) in
      record {
        to = v.to;
        read = rw (level, h.1, there.same_first, holder, held, there.same_tag);
        rest_there = h.2.rest_there;
      }

-- the elements of a list, once the first of them is read and those behind it are
more_back : (t : Tree) (g : Forest) (d : ℕ) (s : List ℕ) (at : ℕ) → Back d s at t (forest_octets g)
    → ((p : ℕ) → drop p s ≡ forest_octets g → forest (tree_at d) s p ≡ value g)
    → forest (tree_at d) s at ≡ value (more t g)
unfolding before and_then
more_back t g d s at b list =
    let w = tree_bound d s at (record { tree = t; to = b.to }) b.read in
    let first = w.some_octets in
    let last = w.ends_within_lem in
    forest_next (tree_at d) s (λ p u e. (tree_bound d s p u e).some_octets)
    at (record { tree = t; to = b.to }) (omega arith) b.read
    ∙ rw (list b.to b.rest_there)

mutual
  unfolding tree_octets forest_octets depth deepest Formed AllFormed

  pub tree_back : (t : Tree) (d : ℕ) (s : List ℕ) (at : ℕ) (rest : List ℕ) → Formed t → depth t ≤ d
      → drop at s ≡ tree_octets t ++ rest → Back d s at t rest
  tree_back (one tag c) d s at rest h k e = one_back tag c s at rest h.0 h.2 e d k h.1
  tree_back (holds tag f) d s at rest h k e =
      holds_back tag (forest_octets f) s at rest h.0 h.2 e d f (omega arith) h.1 refl
      (λ u p q. forest_back f (d - 1) u p h.3 (omega arith) q)

  pub forest_back : (f : Forest) (d : ℕ) (s : List ℕ) (at : ℕ) → AllFormed f → deepest f ≤ d → drop at s ≡ forest_octets f
      → forest (tree_at d) s at ≡ value f
  forest_back empty d s at h k e =
      forest_done (tree_at d) s at (let n = ap length e in let m = length-drop at s in omega (arith, n, m))
  forest_back (more t g) d s at h k e =
      more_back t g d s at
      (tree_back t d s at (forest_octets g) h.0 (le_trans (le-max_left (depth t) (deepest g)) k) e)
      (λ p q. forest_back g d s p h.1 (le_trans (le-max_right (depth t) (deepest g)) k) q)
