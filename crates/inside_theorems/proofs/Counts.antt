-- The templates by their places are those of the tree: as many, and the first where it stands (`count_places`, `first_places`).
use Prim.Native.Nat.{ℕ, suc, ◌≤◌}
use mathlib.Core.Path.{◌≡◌, refl, ap, sym, ◌∙◌}
use mathlib.Core.Logic.{◌⊎◌, inl, inr}
use mathlib.Core.Bool.{Bool, true, false, cond}
use mathlib.Core.List.{List, [], ◌∷◌}
use native.Mathlib.Nat.{le_refl}
use native.Mathlib.Omega.{arith}
use borrow.Author.Tests.{eqb-true, eqb-false}
use lib.Dec.{eqb}
use lib.ListN.{length, get_or}
use Rattle.tlv.specs.Read.{value}
use Rattle.tree.specs.Tree.{Tree, Forest, empty, more}
use Rattle.tree.specs.Reading.{forest, tree_at}
use Rattle.tree.proofs.Bounds.{tree_bound}
use Rattle.inside.specs.Templates.{directly, with_tag}
use Rattle.inside.proofs.Tallies.{tagged, untagged, none_tagged}
use Rattle.inside_theorems.specs.Whole.{tag_of, times_in, from_first}
use Rattle.inside_theorems.proofs.Views.{MoreOf, tree_head, read_empty, more_there}

module _ (d : ℕ) (s : List ℕ) (tag : ℕ) where
  abbrev left : ℕ → List ℕ
  left at = with_tag s tag (directly s at)

  -- what is left behind an element that is read
  hit_left : (at : ℕ) (t : Tree) (g : Forest) (m : MoreOf d s at t g) → tag_of t ≡ tag → left at ≡ at ∷ left m.to
  hit_left at t g m e =
      let h = tree_head s at d (record { tree = t; to = m.to }) m.first_read in
      rw h.same_end (tagged s tag at m.within (sym h.same_tag ∙ e))

  miss_left : (at : ℕ) (t : Tree) (g : Forest) (m : MoreOf d s at t g) → (tag_of t ≡ tag → ⊥) → left at ≡ left m.to
  miss_left at t g m e =
      let h = tree_head s at d (record { tree = t; to = m.to }) m.first_read in
      rw h.same_end (untagged s tag at m.within (λ q. e (h.same_tag ∙ q)))

  pub count_places : (f : Forest) (at : ℕ) → forest (tree_at d) s at ≡ value f → length (left at) ≡ times_in tag f
  unfolding times_in
  count_places empty at e = ap length (none_tagged s tag at (read_empty d s at e))
  count_places (more t g) at e =
      let m = more_there d s at t g e in
      go m (eqb (tag_of t) tag) refl (count_places g m.to m.rest_read)
    where
      go : (m : MoreOf d s at t g) (b : Bool) → eqb (tag_of t) tag ≡ b → length (left m.to) ≡ times_in tag g
          → length (left at) ≡ cond b (suc (times_in tag g)) (times_in tag g)
      go m true q ih = ap length (hit_left at t g m (eqb-true (tag_of t) tag q)) ∙ ap suc ih
      go m false q ih = ap length (miss_left at t g m (eqb-false (tag_of t) tag q)) ∙ ih

  -- the first of them, read at its place
  pub record FirstThere (at : ℕ) (f : Forest) : Type 0 where
    pub tree : Tree
    pub rest : Forest
    pub to : ℕ
    pub from_first_lem : from_first tag f ≡ more tree rest
    pub its_tag : tag_of tree ≡ tag
    pub not_before : at ≤ get_or (left at) 0 0
    pub its_read : tree_at d s (get_or (left at) 0 0) ≡ value (record { tree = tree; to = to })

  pub first_places : (f : Forest) (at : ℕ) → forest (tree_at d) s at ≡ value f
      → ((from_first tag f ≡ empty) × (left at ≡ [])) ⊎ FirstThere at f
  unfolding from_first
  first_places empty at e = inl (refl, none_tagged s tag at (read_empty d s at e))
  first_places (more t g) at e =
      let m = more_there d s at t g e in
      go m (eqb (tag_of t) tag) refl (first_places g m.to m.rest_read)
    where
      here : (m : MoreOf d s at t g) → eqb (tag_of t) tag ≡ true → FirstThere at (more t g)
      here m q =
          let same = eqb-true (tag_of t) tag q in
          let there : get_or (left at) 0 0 ≡ at = ap (λ (l : List ℕ). get_or l 0 0) (hit_left at t g m same) in
          record {
            tree = t;
            rest = g;
            to = m.to;
            from_first_lem = rw q;
            its_tag = same;
            not_before = rw there (le_refl at);
            its_read = rw there m.first_read;
          }

      later : (m : MoreOf d s at t g) → eqb (tag_of t) tag ≡ false → FirstThere m.to g → FirstThere at (more t g)
      later m q r =
          let same = miss_left at t g m (eqb-false (tag_of t) tag q) in
          let onward = (tree_bound d s at (record { tree = t; to = m.to }) m.first_read).some_octets in
          let behind = r.not_before in
          record {
            tree = r.tree;
            rest = r.rest;
            to = r.to;
            from_first_lem = rw q r.from_first_lem;
            its_tag = r.its_tag;
            not_before = rw same (omega arith);
            its_read = rw same r.its_read;
          }

      go : (m : MoreOf d s at t g) (b : Bool) → eqb (tag_of t) tag ≡ b
          → ((from_first tag g ≡ empty) × (left m.to ≡ [])) ⊎ FirstThere m.to g
          → ((cond b (more t g) (from_first tag g) ≡ empty) × (left at ≡ [])) ⊎ FirstThere at (more t g)
      go m true q ih = inr (here m q)
      go m false q (inl h) = inl (h.0, miss_left at t g m (eqb-false (tag_of t) tag q) ∙ h.1)
      go m false q (inr r) = inr (later m q r)
