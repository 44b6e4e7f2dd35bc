-- Where a tree is read, its encoding stands, it is rightly formed and no deeper than it may be.
use Prim.Native.Nat.{ℕ, zero, suc, ◌≤◌, ◌<◌}
use mathlib.Core.Path.{◌≡◌, refl, ap, sym, ◌∙◌}
use mathlib.Core.Bool.{Bool, true, false, cond}
use mathlib.Core.List.{List, ◌++◌}
use native.Mathlib.Nat.{max-le}
use native.Mathlib.Omega.{arith}
use borrow.Author.Tests.{ltb-true, ltb-false, leb-true}
use lib.Dec.{leb, ltb}
use lib.ListN.{length, take, drop, get_or, length-take, drop_of_length-le, get_or-eq_default}
use lib.Seq.{get_or-take}
use Rattle.refusal.specs.Numbers.{by}
use Rattle.tlv.specs.declared.Stretch.{Stretch}
use Rattle.tlv.specs.Read.{Read, value, refusal, and_then}
use Rattle.tlv.specs.Element.{tlv}
use Rattle.tlv.specs.Cut.{cut}
use Rattle.tlv.proofs.Encoded as encoded
use Rattle.tlv.proofs.Encoded.{Stands, reads}
use Rattle.tlv.proofs.Joined.{never_value, same_value, first_value}
use Rattle.tree.specs.Tag.{is_constructed, tag_here, first_octet, is_tag}
use Rattle.tree.specs.Tree.{one, holds, Forest, empty, more, tree_octets, forest_octets, depth, deepest, Formed, AllFormed}
use Rattle.tree.specs.Reading.{Found, here, forest_from, forest, inside, tree_at}
use Rattle.tree.proofs.Heads.{here_element}
use Rattle.inside_theorems.proofs.TagOctets.{tag_here_lem}

-- what is lent: octets, wherever one looks
abbrev pub Small : List ℕ → Type 0
Small s = (i : ℕ) → get_or s i 0 < 256

pub small_take : (s : List ℕ) → Small s → (n : ℕ) → Small (take n s)
small_take s small n i = go (ltb i n) refl
  where
    go : (b : Bool) → ltb i n ≡ b → get_or (take n s) i 0 < 256
    go true e = rw (get_or-take n s i 0 (ltb-true i n e)) (small i)
    go false e =
        let past : length (take n s) ≤ i = let h = ltb-false i n e in rw length-take (omega arith) in
        rw (get_or-eq_default (take n s) 0 past) (omega arith)

-- what a tree that is read has
pub record Reads (d : ℕ) (s : List ℕ) (at : ℕ) (t : Found) : Type 0 where
  pub formed : Formed t.tree
  pub not_deeper : depth t.tree ≤ d
  pub octets : drop at s ≡ tree_octets t.tree ++ drop t.to s

pub record ReadsAll (d : ℕ) (s : List ℕ) (at : ℕ) (f : Forest) : Type 0 where
  pub all_formed : AllFormed f
  pub none_deeper : deepest f ≤ d
  pub all_octets_lem : drop at s ≡ forest_octets f

module _ (d : ℕ) (elementAt : List ℕ → ℕ → Read Found)
    (reads-one : (s : List ℕ) → Small s → (at : ℕ) (t : Found) → elementAt s at ≡ value t → Reads d s at t) where
  reads_first : (s : List ℕ) (at : ℕ) (t : Found) (g : Forest) → Reads d s at t → ReadsAll d s t.to g
      → ReadsAll d s at (more t.tree g)
  unfolding AllFormed deepest forest_octets
  reads_first s at t g a b = record {
    all_formed = (a.formed, b.all_formed);
    none_deeper = max-le a.not_deeper b.none_deeper;
    all_octets_lem = a.octets ∙ ap (λ (l : List ℕ). tree_octets t.tree ++ l) b.all_octets_lem;
  }

  reads_none : (s : List ℕ) (at : ℕ) → length s ≤ at → ReadsAll d s at empty
  unfolding AllFormed deepest forest_octets
  reads_none s at h = record { all_formed = tt; none_deeper = omega arith; all_octets_lem = drop_of_length-le s h }

  forest_reads : (k : ℕ) (s : List ℕ) → Small s → (at : ℕ) (f : Forest) → forest_from elementAt k s at ≡ value f
      → ReadsAll d s at f
  unfolding forest_from
  forest_reads zero s small at f e = absurd (never_value _ at f e)
  forest_reads (suc k) s small at f e = go (leb (length s) at) refl e (forest_reads k s small)
    where
      onward : Found → Read Forest
      onward t = and_then (forest_from elementAt k s t.to) (λ (g : Forest). value (more t.tree g))

      go : (b : Bool) → leb (length s) at ≡ b → cond b (value empty) (and_then (elementAt s at) onward) ≡ value f
          → ((p : ℕ) (g : Forest) → forest_from elementAt k s p ≡ value g → ReadsAll d s p g)
          → ReadsAll d s at f
      go true h q rest = rw (← same_value q) (reads_none s at (leb-true (length s) at h))
      go false h q rest =
          let a = first_value (elementAt s at) onward f q in
          let b = first_value (forest_from elementAt k s a.0.to) (λ (g : Forest). value (more a.0.tree g)) f a.2 in
          rw (← same_value b.2)
          (reads_first s at a.0 b.0 (reads-one s small at a.0 a.1) (rest a.0.to b.0 b.1))

  inside_reads : (s : List ℕ) → Small s → (at : ℕ) (v : Stretch) → here s at ≡ value v → (t : Found)
      → inside elementAt s at v ≡ value t → Reads (suc d) s at t
  unfolding inside forest cut Formed depth tree_octets
  inside_reads s small at v h t e = go (is_constructed (get_or s at 0)) refl e
    where
      tag : ℕ
      tag = tag_here s at

      stands : Stands s at tag (cut s v) (drop v.to s) v
      stands = reads s at tag small v (here_element s at v h).1

      rightly : (is_tag tag ≡ true) × (first_octet tag ≡ get_or s at 0)
      rightly = tag_here_lem s small at (here_element s at v h).0

      single : is_constructed (get_or s at 0) ≡ false → Reads (suc d) s at (record { tree = one tag (cut s v); to = v.to })
      single plain = record {
        formed = (rightly.0, rw rightly.1 plain, stands.content_most);
        not_deeper = omega arith;
        octets = stands.octets_there;
      }

      held : (f : Forest) → is_constructed (get_or s at 0) ≡ true → ReadsAll d (take v.to s) v.from f
          → Reads (suc d) s at (record { tree = holds tag f; to = v.to })
      held f holder a =
          let same : cut s v ≡ forest_octets f =
          sym (encoded.inside s at tag (cut s v) (drop v.to s) v stands) ∙ a.all_octets_lem in
          let deep = a.none_deeper in
          record {
            formed = (rightly.0, rw rightly.1 holder, rw (← same) stands.content_most, a.all_formed);
            not_deeper = omega arith;
            octets = stands.octets_there ∙ ap (λ (x : List ℕ). tlv tag x ++ drop v.to s) same;
          }

      go : (b : Bool) → is_constructed (get_or s at 0) ≡ b
          → cond b
          (and_then (forest elementAt (take v.to s) v.from) (λ (f : Forest).
          value (record { tree = holds tag f; to = v.to })))
          (value (record { tree = one tag (cut s v); to = v.to })) ≡ value t
          → Reads (suc d) s at t
      go true b q =
          let a = first_value (forest elementAt (take v.to s) v.from)
          (λ (f : Forest). value (record { tree = holds tag f; to = v.to })) t q in
          rw (← same_value a.2) (held a.0 b
          (forest_reads (suc (length (take v.to s))) (take v.to s) (small_take s small v.to) v.from a.0 a.1))
      go false b q = rw (← same_value q) (single b)

pub tree_reads : (d : ℕ) (s : List ℕ) → Small s → (at : ℕ) (t : Found) → tree_at d s at ≡ value t → Reads d s at t
unfolding tree_at
tree_reads zero s small at t e =
    let a = first_value (here s at) (λ (v : Stretch). refusal (by 21) at) t e in
    absurd (never_value _ at t a.2)
tree_reads (suc d) s small at t e =
    let a = first_value (here s at) (inside (tree_at d) s at) t e in
    inside_reads d (tree_at d) (tree_reads d) s small at a.0 a.1 t a.2
