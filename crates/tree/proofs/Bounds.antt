-- An element ends behind its place and within what holds it, and there are no more elements than octets.
use Prim.Native.Nat.{ℕ, zero, suc, ◌+◌, ◌≤◌, ◌<◌}
use mathlib.Core.Path.{◌≡◌}
use mathlib.Core.Bool.{Bool, true, false, cond}
use mathlib.Core.List.{List}
use native.Mathlib.Omega.{arith}
use lib.Dec.{leb}
use lib.ListN.{length, take, get_or}
use lib.Seq.{length-take-le}
use Rattle.refusal.specs.Numbers.{by}
use Rattle.tlv.specs.declared.Stretch.{Stretch}
use Rattle.tlv.specs.Read.{Read, value, refusal, and_then}
use Rattle.tlv.specs.Cut.{cut}
use Rattle.tlv.proofs.Joined.{never_value, same_value, first_value}
use Rattle.tree.specs.Tag.{is_constructed, tag_here}
use Rattle.tree.specs.Tree.{one, holds, Forest, empty, more, elements, all_elements}
use Rattle.tree.specs.Reading.{Found, here, forest_from, forest, inside, tree_at}
use Rattle.tree.proofs.Heads.{here_within}

-- what a found element keeps to
pub record Bound (s : List ℕ) (at : ℕ) (t : Found) : Type 0 where
  pub some_octets : at < t.to
  pub ends_within_lem : t.to ≤ length s
  pub no_more : at + elements t.tree ≤ t.to

module _ (elementAt : List ℕ → ℕ → Read Found)
    (bound : (s : List ℕ) (at : ℕ) (t : Found) → elementAt s at ≡ value t → Bound s at t) where
  pub forest_bound : (k : ℕ) (s : List ℕ) (at : ℕ) (f : Forest) → at ≤ length s → forest_from elementAt k s at ≡ value f
      → at + all_elements f ≤ length s
  unfolding forest_from all_elements
  forest_bound zero s at f h e = absurd (never_value _ at f e)
  forest_bound (suc k) s at f h e = go (leb (length s) at) e (forest_bound k s)
    where
      onward : Found → Read Forest
      onward t = and_then (forest_from elementAt k s t.to) (λ (g : Forest). value (more t.tree g))

      held : (t : Found) (g : Forest) → Bound s at t → t.to + all_elements g ≤ length s → more t.tree g ≡ f
          → at + all_elements f ≤ length s
      held t g b r q = rw (← q) (let n = b.no_more in omega arith)

      go : (b : Bool) → cond b (value empty) (and_then (elementAt s at) onward) ≡ value f
          → ((p : ℕ) (g : Forest) → p ≤ length s → forest_from elementAt k s p ≡ value g → p + all_elements g ≤ length s)
          → at + all_elements f ≤ length s
      go true q rest = rw (← same_value q) (omega arith)
      go false q rest =
          let a = first_value (elementAt s at) onward f q in
          let b = first_value (forest_from elementAt k s a.0.to) (λ (g : Forest). value (more a.0.tree g)) f a.2 in
          let w = bound s at a.0 a.1 in
          held a.0 b.0 w (rest a.0.to b.0 w.ends_within_lem b.1) (same_value b.2)

  inside_bound : (s : List ℕ) (at : ℕ) (v : Stretch) (t : Found) → (at < v.from) × (v.from ≤ v.to) × (v.to ≤ length s)
      → inside elementAt s at v ≡ value t → Bound s at t
  unfolding inside forest elements
  inside_bound s at v t w e = go (is_constructed (get_or s at 0)) e
    where
      tag : ℕ
      tag = tag_here s at

      long : length (take v.to s) ≡ v.to
      long = length-take-le v.to s w.2

      held : (f : Forest) → v.from + all_elements f ≤ length (take v.to s)
          → Bound s at (record { tree = holds tag f; to = v.to })
      held f r = record {
        some_octets = omega (arith, w.0, w.1);
        ends_within_lem = w.2;
        no_more = omega (arith, long, w.0);
      }

      single : Bound s at (record { tree = one tag (cut s v); to = v.to })
      single = record { some_octets = omega (arith, w.0, w.1); ends_within_lem = w.2; no_more = omega (arith, w.0, w.1) }

      go : (b : Bool)
          → cond b
          (and_then (forest elementAt (take v.to s) v.from) (λ (f : Forest).
          value (record { tree = holds tag f; to = v.to })))
          (value (record { tree = one tag (cut s v); to = v.to })) ≡ value t
          → Bound s at t
      go true q =
          let a = first_value (forest elementAt (take v.to s) v.from)
          (λ (f : Forest). value (record { tree = holds tag f; to = v.to })) t q in
          let r = forest_bound (suc (length (take v.to s))) (take v.to s) v.from a.0 (omega (arith, long, w.1))
          a.1 in
          rw (← same_value a.2) (held a.0 r)
      go false q = rw (← same_value q) single

pub tree_bound : (d : ℕ) (s : List ℕ) (at : ℕ) (t : Found) → tree_at d s at ≡ value t → Bound s at t
unfolding tree_at
tree_bound zero s at t e =
    let a = first_value (here s at) (λ (v : Stretch). refusal (by 21) at) t e in
    absurd (never_value _ at t a.2)
tree_bound (suc d) s at t e =
    let a = first_value (here s at) (inside (tree_at d) s at) t e in
    inside_bound (tree_at d) (tree_bound d) s at a.0 t (here_within s at a.0 a.1) a.2
