-- ACCEPTED EXACTLY WHEN the octets are the encoding of a whole file's tree (`inside_exactly`); the number is then that tree's
-- (`number_exactly`), and no other tree has these octets (`no_other_tree`).
use Prim.Native.Nat.{ℕ, ◌≤◌, ◌<◌}
use mathlib.Core.Path.{◌≡◌, refl, ap, sym, ◌∙◌}
use mathlib.Core.Logic.{◌↔◌}
use mathlib.Core.Bool.{Bool, true, false, cond, ◌&&◌, false≢true}
use mathlib.Core.List.{List, [], ◌++◌, append-nil}
use native.Mathlib.Omega.{arith}
use borrow.Author.Tests.{eqb-true, eqb-false, eq-eqb, ne_eqb, leb-true, le-leb, lt-ltb}
use lib.Dec.{eqb, leb}
use lib.ListN.{length, drop, get_or, length-drop, drop_of_length-le}
use lib.Seq.{take-length}
use Rattle.lent.proofs.Bools.{both_and}
use Rattle.refusal.specs.Outcome.{passed}
use Rattle.refusal.proofs.Outcomes.{both_passed, unless_kept, kept_unless}
use Rattle.zone.specs.Octets.{AreOctets}
use Rattle.zone.proofs.Octets.{octet_below}
use Rattle.tlv.specs.declared.Stretch.{Stretch}
use Rattle.tlv.specs.Read.{value, and_then, checked}
use Rattle.tlv.specs.Element.{tlv, element}
use Rattle.tlv.specs.Cut.{cut, end_check}
use Rattle.tlv.specs.Tags.{group_of, is_group}
use Rattle.tlv.proofs.Joined.{same_value, first_value, checked_value, kept_value, one_value}
use Rattle.tlv.proofs.Encoded.{Stands, reads, back, tag_first}
use Rattle.tlv.proofs.Standing.{cut_there}
use Rattle.tlv.proofs.Past.{some_tag}
use Rattle.tlv.proofs.Onward.{some_place}
use Rattle.tree.specs.Tag.{tag_here, first_octet}
use Rattle.tree.specs.Tree.{Tree, one, holds, Forest, tree_octets, forest_octets, elements, Formed}
use Rattle.tree.specs.Reading.{Found, tree_at}
use Rattle.tree.proofs.Bounds.{tree_bound}
use Rattle.inside.specs.Templates.{value_here, templates_check, count_check}
use Rattle.inside.specs.Inside.{group_here, as_one, file_tree, behind_file, inside, look_inside}
use Rattle.inside.proofs.Heads.{group_tag_lem, group_one_lem, group_constructed}
use Rattle.inside.proofs.Tags.{tag_one}
use Rattle.inside_theorems.specs.Whole.{tag_of, OwnInside, HoldsWhole, CountRight, Whole}
use Rattle.inside_theorems.proofs.TreeBack.{tree_back}
use Rattle.inside_theorems.proofs.TreeRead.{Small, Reads, tree_reads}
use Rattle.inside_theorems.proofs.Views.{tree_head, tree_held}
use Rattle.inside_theorems.proofs.Templates.{count_right, right_count}

-- ---- groups

pub is_group_lem : (tag : ℕ) → is_group tag ≡ true → group_of tag ≡ 0 → ⊥
unfolding is_group
is_group_lem tag e z = false≢true (rw z at e)

group_is : (tag : ℕ) → (group_of tag ≡ 0 → ⊥) → is_group tag ≡ true
unfolding is_group
group_is tag h = rw (ne_eqb (group_of tag) 0 h)

group_small : (tag : ℕ) → (group_of tag ≡ 0 → ⊥) → tag < 256
group_small tag h = let k = group_tag_lem tag h in omega (arith, k.1)

-- a group's tag is its own first octet
group_first : (tag : ℕ) → (group_of tag ≡ 0 → ⊥) → first_octet tag ≡ tag
unfolding first_octet
group_first tag h = rw (lt-ltb tag 256 (group_small tag h))

-- ---- an encoding that is all there is

module _ (s : List ℕ) where
  all_there : (to : ℕ) (l : List ℕ) → to ≡ length s → drop 0 s ≡ l ++ drop to s → s ≡ l
  all_there to l whole e =
      let past : length s ≤ to = omega arith in
      e ∙ ap (λ (r : List ℕ). l ++ r) (drop_of_length-le s past) ∙ append-nil l

  there_all : (l : List ℕ) → s ≡ l → drop 0 s ≡ l ++ []
  there_all l e = e ∙ sym (append-nil l)

  none_behind : (to : ℕ) → end_check s to ≡ passed → to ≡ length s
  unfolding end_check
  none_behind to e = eqb-true to (length s) (unless_kept _ 10 to e)

  behind_none : (to : ℕ) → to ≡ length s → end_check s to ≡ passed
  unfolding end_check
  behind_none to e = kept_unless _ 10 to (eq-eqb to (length s) e)

  value_behind : 1 ≤ (value_here s 0).from
  unfolding value_here
  value_behind = omega (arith, some_place s 0 (tag_here s 0), some_tag (tag_here s 0))

-- ---- what is accepted is whole

module _ (s : List ℕ) (small : Small s) where
  abbrev tag : ℕ
  tag = get_or s 0 0

  abbrev group : ℕ
  group = group_of (get_or s 0 0)

  one_whole : (x : Found) → group_of tag ≡ 13 → as_one s ≡ value x → x.to ≡ length s → (s ≡ tree_octets x.tree) × Whole x.tree
  unfolding as_one tree_octets Whole cut
  one_whole x thirteen e whole =
      let a = first_value (element s 0 tag) (λ (v : Stretch). value (record { tree = one tag (cut s v); to = v.to })) x e in
      let r = reads s 0 tag small a.0 a.1 in
      go a.0 r (same_value a.2)
    where
      go : (v : Stretch) → Stands s 0 tag (cut s v) (drop v.to s) v
          → record { tree = one tag (cut s v); to = v.to } ≡ x
          → (s ≡ tree_octets x.tree) × Whole x.tree
      go v r q =
          let end : v.to ≡ length s = ap (λ (y : Found). y.to) q ∙ whole in
          rw (← q) (
            all_there s v.to (tlv tag (cut s v)) end r.octets_there,
            record { thirteen = thirteen; content_most = r.content_most },
          )

  module _ (some : group_of tag ≡ 0 → ⊥) (other : group_of tag ≡ 13 → ⊥) where
    tag_there : tag_here s 0 ≡ tag
    tag_there = tag_one s 0 (group_one_lem tag some)

    count_there : (f : Forest) (x : ℕ) → tree_at 8 s 0 ≡ value (record { tree = holds tag f; to = x }) → x ≡ length s
        → count_check group s (value_here s 0).from ≡ passed → 2 ≤ group → group ≤ 4 → CountRight group f
    unfolding count_check
    count_there f x e whole c low high =
        let h = tree_held s 0 8 tag f x e in
        let end = (tree_head s 0 8 (record { tree = holds tag f; to = x }) e).same_end in
        let list = rw (sym end ∙ whole, take-length s) at h.list_read in
        let check = rw (both_and (le-leb 2 group low) (le-leb group 4 high)) at c in
        count_right h.below s small (value_here s 0).from (value_behind s) f list group check

    tree_whole : (t : Tree) (x : ℕ) → tree_at 8 s 0 ≡ value (record { tree = t; to = x }) → x ≡ length s
        → count_check group s (value_here s 0).from ≡ passed → (s ≡ tree_octets t) × Whole t
    unfolding Whole tag_of Formed
    tree_whole (one u c) x e whole check =
        let r = tree_reads 8 s small 0 (record { tree = one u c; to = x }) e in
        let same : u ≡ tag = (tree_head s 0 8 (record { tree = one u c; to = x }) e).same_tag ∙ tag_there in
        let plain = rw (same, group_first tag some, group_constructed tag some) at r.formed.1 in
        absurd (false≢true (sym plain))
    tree_whole (holds u f) x e whole check =
        let r = tree_reads 8 s small 0 (record { tree = holds u f; to = x }) e in
        let same : u ≡ tag = (tree_head s 0 8 (record { tree = holds u f; to = x }) e).same_tag ∙ tag_there in
        (all_there s x (tree_octets (holds u f)) whole r.octets, go u same e r)
      where
        go : (u : ℕ) → u ≡ tag → tree_at 8 s 0 ≡ value (record { tree = holds u f; to = x })
            → Reads 8 s 0 (record { tree = holds u f; to = x }) → HoldsWhole u f
        go u same q r = record {
          some_group = rw same some;
          not_thirteen = rw same other;
          formed = r.formed;
          not_deeper = r.not_deeper;
          count = rw same (count_there f x (rw same at q) whole check);
        }

  file_whole : (x : Found) → is_group tag ≡ true → x.to ≡ length s → count_check group s (value_here s 0).from ≡ passed
      → cond (eqb group 13) (as_one s) (tree_at 8 s 0) ≡ value x → (s ≡ tree_octets x.tree) × Whole x.tree
  file_whole x g whole check e = go (eqb group 13) refl e
    where
      go : (b : Bool) → eqb group 13 ≡ b → cond b (as_one s) (tree_at 8 s 0) ≡ value x
          → (s ≡ tree_octets x.tree) × Whole x.tree
      go true q f = one_whole x (eqb-true group 13 q) f whole
      go false q f = tree_whole (is_group_lem tag g) (eqb-false group 13 q) x.tree x.to f whole check

  pub inside_whole : (t : Tree) → inside s ≡ value t → (s ≡ tree_octets t) × Whole t
  unfolding inside file_tree behind_file group_here
  inside_whole t e =
      let a = first_value (file_tree s) (λ (x : Found). checked (behind_file s x.to) (value x.tree)) t e in
      let x = a.0 in
      let k = checked_value (behind_file s x.to) (value x.tree) t a.2 in
      let both = both_passed (end_check s x.to) _ k.0 in
      let f = kept_value (is_group tag) (cond (eqb group 13) (as_one s) (tree_at 8 s 0)) _ 0 x a.1 in
      rw (← same_value k.1) (file_whole x f.0 (none_behind s x.to both.0) both.1 f.1)

-- ---- what is whole is accepted

module _ (s : List ℕ) where
  -- the file's tree, and then the last checks
  accepted : (x : Found) → file_tree s ≡ value x → x.to ≡ length s
      → count_check (group_here s) s (value_here s 0).from ≡ passed → inside s ≡ value x.tree
  unfolding inside behind_file and_then checked
  accepted x e whole check = rw (e, behind_none s x.to whole, check)

  one_accepted : (tag : ℕ) (c : List ℕ) → OwnInside tag c → s ≡ tlv tag c → inside s ≡ value (one tag c)
  unfolding file_tree as_one and_then group_here count_check
  one_accepted tag c h e =
      let thirteen = h.thirteen in
      let some : group_of tag ≡ 0 → ⊥ = λ z. omega (arith, thirteen, z) in
      let there = there_all s (tlv tag c) e in
      let first = tag_first s 0 tag c [] (group_small tag some) there in
      let b = back s 0 tag c [] h.content_most there in
      let whole = ends b.0 b.2.ends_within_lem b.2.rest_there in
      accepted (record { tree = one tag c; to = b.0.to })
      (rw (first, group_is tag some, thirteen, b.1, cut_there s 0 tag c [] b.0 b.2))
      whole
      (rw (first, thirteen))
    where
      ends : (v : Stretch) → v.to ≤ length s → drop v.to s ≡ [] → v.to ≡ length s
      ends v low q = let n = ap length q in let m = length-drop v.to s in omega (arith, n, m, low)

  tree_accepted : Small s → (tag : ℕ) (f : Forest) → HoldsWhole tag f → s ≡ tree_octets (holds tag f)
      → inside s ≡ value (holds tag f)
  unfolding file_tree group_here count_check tree_octets
  tree_accepted small tag f h e =
      let some = h.some_group in
      let there = there_all s (tree_octets (holds tag f)) e in
      let first = tag_first s 0 tag (forest_octets f) [] (group_small tag some) there in
      let b = tree_back (holds tag f) 8 s 0 [] h.formed h.not_deeper there in
      let w = tree_bound 8 s 0 (record { tree = holds tag f; to = b.to }) b.read in
      let low = w.ends_within_lem in
      let n = ap length b.rest_there in
      let m = length-drop b.to s in
      let whole : b.to ≡ length s = omega (arith, n, m, low) in
      accepted (record { tree = holds tag f; to = b.to })
      (rw (first, group_is tag some, ne_eqb (group_of tag) 13 h.not_thirteen) b.read)
      whole
      (rw first (go b.to whole b.read (leb 2 (group_of tag)) (leb (group_of tag) 4) refl refl))
    where
      go : (to : ℕ) → to ≡ length s → tree_at 8 s 0 ≡ value (record { tree = holds tag f; to = to }) → (x y : Bool)
          → leb 2 (group_of tag) ≡ x → leb (group_of tag) 4 ≡ y
          → cond (x && y) (templates_check (group_of tag) s (value_here s 0).from) passed ≡ passed
      go to whole q true true p r =
          let k = tree_held s 0 8 tag f to q in
          let end = (tree_head s 0 8 (record { tree = holds tag f; to = to }) q).same_end in
          let list = rw (sym end ∙ whole, take-length s) at k.list_read in
          let low = leb-true 2 (group_of tag) p in
          right_count k.below s small (value_here s 0).from (value_behind s) f list (group_of tag) low
          (h.count low (leb-true (group_of tag) 4 r))
      go to whole q true false p r = refl
      go to whole q false y p r = refl

  pub whole_inside : Small s → (t : Tree) → s ≡ tree_octets t → Whole t → inside s ≡ value t
  unfolding Whole tree_octets
  whole_inside small (one tag c) e h = one_accepted tag c h e
  whole_inside small (holds tag f) e h = tree_accepted small tag f h e

-- ---- the theorems

module _ (s : List ℕ) (octets : AreOctets s) where
  pub inside_exactly : (t : Tree) → (inside s ≡ value t) ↔ ((s ≡ tree_octets t) × Whole t)
  inside_exactly t = (
    λ e. inside_whole s (octet_below s octets) t e,
    λ h. whole_inside s (octet_below s octets) t h.0 h.1,
  )

  -- no other tree has these octets
  pub no_other_tree : (t u : Tree) → s ≡ tree_octets t → Whole t → s ≡ tree_octets u → Whole u → t ≡ u
  no_other_tree t u e h f k = one_value (inside s) t u ((inside_exactly t).1 (e, h)) ((inside_exactly u).1 (f, k))

  -- the number is that of the tree
  pub number_exactly : (n : ℕ) → (look_inside s ≡ value n) ↔ ((t : Tree) × (s ≡ tree_octets t) × Whole t × (n ≡ elements t))
  unfolding look_inside and_then
  number_exactly n = (
    λ e.
        let a = first_value (inside s) (λ (t : Tree). value (elements t)) n e in
        let w = (inside_exactly a.0).0 a.1 in
        (a.0, w.0, w.1, sym (same_value a.2)),
    λ h. rw ((inside_exactly h.0).1 (h.1, h.2), h.3),
  )
