-- What a tree that is read has at its place, and what a list of elements that is read begins with.
use Prim.Native.Nat.{ℕ, zero, suc, ◌≤◌, ◌<◌}
use mathlib.Core.Path.{◌≡◌, refl, ap, sym, ◌∙◌}
use mathlib.Core.Bool.{Bool, true, false, cond}
use mathlib.Core.List.{List}
use native.Mathlib.Omega.{arith}
use borrow.Author.Tests.{leb-true, leb-false}
use lib.Dec.{leb}
use lib.ListN.{length, take, get_or}
use Rattle.refusal.specs.Numbers.{by}
use Rattle.tlv.specs.declared.Stretch.{Stretch}
use Rattle.tlv.specs.Read.{Read, value, refusal, and_then}
use Rattle.tlv.specs.Cut.{cut}
use Rattle.tlv.proofs.Joined.{never_value, same_value, first_value}
use Rattle.tlv.proofs.Onward.{stretch_read}
use Rattle.tree.specs.Tag.{is_constructed, tag_here}
use Rattle.tree.specs.Tree.{Tree, one, holds, Forest, empty, more}
use Rattle.tree.specs.Reading.{Found, here, forest, inside, tree_at}
use Rattle.tree.proofs.Heads.{here_element}
use Rattle.tree.proofs.Bounds.{tree_bound}
use Rattle.tree.proofs.Walking.{before, forest_done, forest_next, forest_refused}
use Rattle.inside.specs.Templates.{value_here}
use Rattle.inside_theorems.specs.Whole.{tag_of}

-- ---- a tree

pub here_value : (s : List ℕ) (at : ℕ) (v : Stretch) → here s at ≡ value v → value_here s at ≡ v
unfolding value_here
here_value s at v e = stretch_read s at (tag_here s at) v (here_element s at v e).1

-- its tag stands at its place, and it ends where its length says
pub record HeadOf (s : List ℕ) (at : ℕ) (t : Found) : Type 0 where
  pub same_tag : tag_of t.tree ≡ tag_here s at
  pub same_end : t.to ≡ (value_here s at).to

-- what it holds is read behind its head
pub record Held (d : ℕ) (s : List ℕ) (at : ℕ) (f : Forest) : Type 0 where
  pub below : ℕ
  pub level : d ≡ suc below
  pub list_read : forest (tree_at below) (take (value_here s at).to s) (value_here s at).from ≡ value f

pub never_one : {tag u : ℕ} {c : List ℕ} {f : Forest} → one tag c ≡ holds u f → ⊥
never_one e = let z : ◌≡◌ {A = ℕ} 0 1 = cc in omega arith

pub same_held : {tag u : ℕ} {f g : Forest} → holds tag f ≡ holds u g → f ≡ g
same_held e = cc

tree_same : {a b : Found} → ◌≡◌ {A = Read Found} (value a) (value b) → a.tree ≡ b.tree
tree_same e = ap (λ (x : Found). x.tree) (same_value e)

module _ (s : List ℕ) (at : ℕ) where
  inside_head : (elementAt : List ℕ → ℕ → Read Found) (v : Stretch) (t : Found) → value_here s at ≡ v
      → inside elementAt s at v ≡ value t → HeadOf s at t
  unfolding inside tag_of
  inside_head elementAt v t there e = go (is_constructed (get_or s at 0)) e
    where
      go : (b : Bool)
          → cond b
          (and_then (forest elementAt (take v.to s) v.from) (λ (f : Forest).
          value (record { tree = holds (tag_here s at) f; to = v.to })))
          (value (record { tree = one (tag_here s at) (cut s v); to = v.to })) ≡ value t
          → HeadOf s at t
      go true q =
          let a = first_value (forest elementAt (take v.to s) v.from)
          (λ (f : Forest). value (record { tree = holds (tag_here s at) f; to = v.to })) t q in
          rw (← same_value a.2) (record { same_tag = refl; same_end = rw there })
      go false q = rw (← same_value q) (record { same_tag = refl; same_end = rw there })

  pub tree_head : (d : ℕ) (t : Found) → tree_at d s at ≡ value t → HeadOf s at t
  unfolding tree_at
  tree_head zero t e =
      let a = first_value (here s at) (λ (v : Stretch). refusal (by 21) at) t e in
      absurd (never_value _ at t a.2)
  tree_head (suc d) t e =
      let a = first_value (here s at) (inside (tree_at d) s at) t e in
      inside_head (tree_at d) a.0 t (here_value s at a.0 a.1) a.2

  pub tree_held : (d tag : ℕ) (f : Forest) (to : ℕ) → tree_at d s at ≡ value (record { tree = holds tag f; to = to })
      → Held d s at f
  unfolding tree_at inside
  tree_held zero tag f to e =
      let a = first_value (here s at) (λ (v : Stretch). refusal (by 21) at) (record { tree = holds tag f; to = to }) e in
      absurd (never_value _ at _ a.2)
  tree_held (suc d) tag f to e =
      let a = first_value (here s at) (inside (tree_at d) s at) (record { tree = holds tag f; to = to }) e in
      go a.0 (here_value s at a.0 a.1) (is_constructed (get_or s at 0)) a.2
    where
      go : (v : Stretch) → value_here s at ≡ v → (b : Bool)
          → cond b
          (and_then {B = Found} (forest (tree_at d) (take v.to s) v.from) (λ (g : Forest).
          value (record { tree = holds (tag_here s at) g; to = v.to })))
          (value (record { tree = one (tag_here s at) (cut s v); to = v.to })) ≡ value (record { tree = holds tag f; to = to })
          → Held (suc d) s at f
      go v there true q =
          let a = first_value (forest (tree_at d) (take v.to s) v.from)
          (λ (g : Forest). value (record { tree = holds (tag_here s at) g; to = v.to }))
          (record { tree = holds tag f; to = to }) q
          in
          record { below = d; level = refl; list_read = rw there (a.1 ∙ ap value (same_held (tree_same a.2))) }
      go v there false q = absurd (never_one (tree_same q))

-- ---- a list of elements

pub never_empty : {t : Tree} {g : Forest} → empty ≡ more t g → ⊥
never_empty e = let z : ◌≡◌ {A = ℕ} 0 1 = cc in omega arith

pub same_first : {x y : Tree} {u v : Forest} → more x u ≡ more y v → x ≡ y
same_first q = cc

same_rest : {x y : Tree} {u v : Forest} → more x u ≡ more y v → u ≡ v
same_rest q = cc

-- what is read first, and behind it
pub record MoreOf (d : ℕ) (s : List ℕ) (at : ℕ) (t : Tree) (g : Forest) : Type 0 where
  pub to : ℕ
  pub within : at < length s
  pub first_read : tree_at d s at ≡ value (record { tree = t; to = to })
  pub rest_read : forest (tree_at d) s to ≡ value g

module _ (d : ℕ) (s : List ℕ) (at : ℕ) where
  behind : (p : ℕ) (t : Found) → tree_at d s p ≡ value t → p < t.to
  behind p t e = (tree_bound d s p t e).some_octets

  -- at the end nothing is read, and before it an element
  pub read_more : (f : Forest) → at < length s → forest (tree_at d) s at ≡ value f
      → (t : Tree) × (g : Forest) × (f ≡ more t g) × MoreOf d s at t g
  unfolding before
  read_more f h e = go (tree_at d s at) refl
    where
      go : (m : Read Found) → tree_at d s at ≡ m → (t : Tree) × (g : Forest) × (f ≡ more t g) × MoreOf d s at t g
      go (value t) q =
          let next = sym (forest_next (tree_at d) s behind at t h q) ∙ e in
          let a = first_value (forest (tree_at d) s t.to) (λ (g : Forest). value (more t.tree g)) f next in
          (t.tree, a.0, sym (same_value a.2), record { to = t.to; within = h; first_read = q; rest_read = a.1 })
      go (refusal n p) q = absurd (never_value n p f (sym (forest_refused (tree_at d) s behind at n p h q) ∙ e))

  pub read_empty : forest (tree_at d) s at ≡ value empty → length s ≤ at
  read_empty e = go (leb (length s) at) refl
    where
      go : (b : Bool) → leb (length s) at ≡ b → length s ≤ at
      go true q = leb-true (length s) at q
      go false q = let a = read_more empty (leb-false (length s) at q) e in absurd (never_empty a.2)

  more_same : (x y : Tree) (u v : Forest) → y ≡ x → v ≡ u → MoreOf d s at x u → MoreOf d s at y v
  more_same x y u v p q m = rw (p, q) m

  pub more_there : (t : Tree) (g : Forest) → forest (tree_at d) s at ≡ value (more t g) → MoreOf d s at t g
  more_there t g e = go (leb (length s) at) refl
    where
      go : (b : Bool) → leb (length s) at ≡ b → MoreOf d s at t g
      go true q =
          let none = forest_done (tree_at d) s at (leb-true (length s) at q) in
          absurd (never_empty (same_value (sym none ∙ e)))
      go false q =
          let a = read_more (more t g) (leb-false (length s) at q) e in
          more_same a.0 t a.1 g (same_first a.2) (same_rest a.2) a.3
