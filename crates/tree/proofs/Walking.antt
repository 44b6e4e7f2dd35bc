-- What the walkers go by: what an element is by its head and by the list that it holds, and what a list is by its first element.
use Prim.Native.Nat.{ℕ, zero, suc, ◌+◌, ◌≤◌, ◌<◌}
use mathlib.Core.Path.{◌≡◌, refl, ap, sym, ◌∙◌}
use mathlib.Core.Bool.{Bool, true, false, cond, ◌&&◌}
use mathlib.Core.List.{List}
use native.Mathlib.Nat.{zero-add, add-zero, add_assoc}
use native.Mathlib.Numerals.{add-one}
use native.Mathlib.Omega.{arith}
use borrow.Author.Tests.{le-leb, lt-leb, ltb-false}
use lib.Dec.{ltb}
use lib.ListN.{length, take, get_or}
use lib.Seq.{length-take-le}
use Rattle.lent.proofs.Bools.{and_both}
use Rattle.refusal.specs.Numbers.{Why, by}
use Rattle.tlv.specs.declared.Stretch.{Stretch}
use Rattle.tlv.specs.Read.{Read, value, refusal, and_then}
use Rattle.tlv.specs.Cut.{cut}
use Rattle.tlv.proofs.Joined.{never_value, same_value, first_value}
use Rattle.tlv.proofs.Steps.{steps_enough}
use Rattle.tree.specs.declared.Passed.{Passed}
use Rattle.tree.specs.Tag.{is_constructed, tag_here}
use Rattle.tree.specs.Tree.{one, holds, Forest, empty, more, elements, all_elements}
use Rattle.tree.specs.Reading.{Found, here, forest_from, forest, inside, tree_at}
use Rattle.tree.specs.Inner.Passed.{passing, counting}
use Rattle.tree.proofs.Heads.{here_within}
use Rattle.tree.proofs.Bounds.{tree_bound, forest_bound}

-- ---- a list of elements, each read in the same way

-- an element before those that follow it
unfoldable pub before : Found → Read Forest → Read Forest
before t rest = and_then rest (λ (f : Forest). value (more t.tree f))

module _ (elementAt : List ℕ → ℕ → Read Found) (s : List ℕ) where
  forest_end : (k at : ℕ) → length s ≤ at → forest_from elementAt (suc k) s at ≡ value empty
  unfolding forest_from
  forest_end k at h = rw (le-leb (length s) at h)

  forest_more : (k at : ℕ) (t : Found) → at < length s → elementAt s at ≡ value t
      → forest_from elementAt (suc k) s at ≡ before t (forest_from elementAt k s t.to)
  unfolding forest_from and_then before
  forest_more k at t h e = rw (lt-leb (length s) at h, e)

  forest_stop : (k at : ℕ) (n : Why) (p : ℕ) → at < length s → elementAt s at ≡ refusal n p
      → forest_from elementAt (suc k) s at ≡ refusal n p
  unfolding forest_from and_then
  forest_stop k at n p h e = rw (lt-leb (length s) at h, e)

  pub forest_done : (at : ℕ) → length s ≤ at → forest elementAt s at ≡ value empty
  unfolding forest
  forest_done at h = forest_end (length s) at h

  module _ (behind : (at : ℕ) (t : Found) → elementAt s at ≡ value t → at < t.to) where
    -- any number of steps that is enough gives the same
    forest_enough : (k m at : ℕ) → length s ≤ at + k → length s ≤ at + m
        → forest_from elementAt (suc k) s at ≡ forest_from elementAt (suc m) s at
    forest_enough k m at a b =
        steps_enough
        (length s)
        (elementAt s)
        (λ (t : Found). t.to)
        (λ (p : ℕ) (t : Found). before t)
        (value empty)
        (λ i p. forest_from elementAt (suc i) s p)
        (λ i p. forest_end i p)
        (λ i p t h. forest_more (suc i) p t h)
        (λ i p x y h. forest_stop (suc i) p x y h)
        behind
        k
        m
        at
        a
        b

    pub forest_next : (at : ℕ) (t : Found) → at < length s → elementAt s at ≡ value t
        → forest elementAt s at ≡ before t (forest elementAt s t.to)
    unfolding forest
    forest_next at t h e =
        forest_enough (length s) (suc (length s)) at (omega arith) (omega arith) ∙ forest_more (suc (length s)) at t h e

    pub forest_refused : (at : ℕ) (n : Why) (p : ℕ) → at < length s → elementAt s at ≡ refusal n p
        → forest elementAt s at ≡ refusal n p
    unfolding forest
    forest_refused at n p h e =
        forest_enough (length s) (suc (length s)) at (omega arith) (omega arith) ∙ forest_stop (suc (length s)) at n p h e

-- ---- how many elements a list has

-- so many more
unfoldable pub plus : ℕ → Read ℕ → Read ℕ
plus n m = and_then m (λ (k : ℕ). value (n + k))

pub plus_none : (m : Read ℕ) → plus 0 m ≡ m
unfolding plus and_then
plus_none (value k) = rw (zero-add k)
plus_none (refusal n p) = refl

pub plus_plus : (a b : ℕ) (m : Read ℕ) → plus (a + b) m ≡ plus a (plus b m)
unfolding plus and_then
plus_plus a b (value k) = rw (add_assoc a b k)
plus_plus a b (refusal n p) = refl

pub plus_ended : (n : ℕ) (m : Read ℕ) → m ≡ value 0 → plus n m ≡ value n
unfolding plus and_then
plus_ended n m e = rw (e, add-zero n)

pub plus_stopped : (n : ℕ) (m : Read ℕ) (why : Why) (p : ℕ) → m ≡ refusal why p → plus n m ≡ refusal why p
unfolding plus and_then
plus_stopped n m why p e = rw e

passing_value : (d : ℕ) (s : List ℕ) (at : ℕ) (p : Passed) → passing d s at ≡ value p
    → (t : Found) × (tree_at d s at ≡ value t) × (record { elements = elements t.tree; to = t.to } ≡ p)
unfolding passing
passing_value d s at p e =
    let a = first_value (tree_at d s at) (λ (t : Found). value (record { elements = elements t.tree; to = t.to })) p e in
    (a.0, a.1, same_value a.2)

passing_refusal : (d : ℕ) (s : List ℕ) (at : ℕ) (n : Why) (p : ℕ) → passing d s at ≡ refusal n p → tree_at d s at ≡ refusal n p
unfolding passing and_then
passing_refusal d s at n p e = go (tree_at d s at) e
  where
    go : (m : Read Found)
        → and_then {B = Passed} m (λ (t : Found). value (record { elements = elements t.tree; to = t.to })) ≡ refusal n p
        → m ≡ refusal n p
    go (value t) f = absurd (never_value n p _ (sym f))
    go (refusal a b) f = let x : a ≡ n = cc in let y : b ≡ p = cc in rw (x, y)

pub passing_bound : (d : ℕ) (s : List ℕ) (at : ℕ) (p : Passed) → passing d s at ≡ value p
    → (at < p.to) × (p.to ≤ length s) × (at + p.elements ≤ p.to)
passing_bound d s at p e =
    let a = passing_value d s at p e in
    let b = tree_bound d s at a.0 a.1 in
    rw (← a.2) (b.some_octets, b.ends_within_lem, b.no_more)

module _ (d : ℕ) (s : List ℕ) where
  behind : (at : ℕ) (t : Found) → tree_at d s at ≡ value t → at < t.to
  behind at t e = (tree_bound d s at t e).some_octets

  pub counting_done : (at : ℕ) → length s ≤ at → counting d s at ≡ value 0
  unfolding counting and_then all_elements
  counting_done at h = rw (forest_done (tree_at d) s at h)

  counting_found : (at : ℕ) (t : Found) → at < length s → tree_at d s at ≡ value t
      → counting d s at ≡ plus (elements t.tree) (counting d s t.to)
  unfolding counting and_then before plus all_elements
  counting_found at t h e =
      rw (forest_next (tree_at d) s behind at t h e) (go (forest (tree_at d) s t.to))
    where
      go : (m : Read Forest)
          → and_then (before t m) (λ (f : Forest). value (all_elements f))
          ≡ plus (elements t.tree) (and_then m (λ (f : Forest). value (all_elements f)))
      go (value f) = refl
      go (refusal n q) = refl

  pub counting_next : (at : ℕ) (p : Passed) → at < length s → passing d s at ≡ value p
      → counting d s at ≡ plus p.elements (counting d s p.to)
  counting_next at p h e =
      let a = passing_value d s at p e in
      counting_found at a.0 h a.1 ∙ ap (λ (q : Passed). plus q.elements (counting d s q.to)) a.2

  pub counting_refused : (at : ℕ) (n : Why) (p : ℕ) → at < length s → passing d s at ≡ refusal n p
      → counting d s at ≡ refusal n p
  unfolding counting and_then
  counting_refused at n p h e = rw (forest_refused (tree_at d) s behind at n p h (passing_refusal d s at n p e))

  pub counting_bound : (at n : ℕ) → at ≤ length s → counting d s at ≡ value n → at + n ≤ length s
  unfolding counting forest
  counting_bound at n h e =
      let a = first_value (forest (tree_at d) s at) (λ (f : Forest). value (all_elements f)) n e in
      let b = forest_bound (tree_at d) (tree_bound d) (suc (length s)) s at a.0 h a.1 in
      rw (← same_value a.2) b

-- with the element that holds them they can be counted too
pub held_bound : (d : ℕ) (s : List ℕ) (at : ℕ) (v : Stretch) → here s at ≡ value v → (n : ℕ)
    → counting d (take v.to s) v.from ≡ value n → n + 1 ≤ length s
held_bound d s at v e n f =
    let w = here_within s at v e in
    let long : length (take v.to s) ≡ v.to = length-take-le v.to s w.2 in
    let k = counting_bound d (take v.to s) v.from n (omega (arith, long, w.1)) f in
    omega (arith, long, k, w.0, w.2)

-- ---- an element, by its head

module _ (D : ℕ) (s : List ℕ) (at : ℕ) where
  pub passing_refused : (n : Why) (p : ℕ) → here s at ≡ refusal n p → passing D s at ≡ refusal n p
  unfolding passing and_then tree_at
  passing_refused n p e = go D
    where
      go : (d : ℕ)
          → and_then {B = Passed} (tree_at d s at) (λ (t : Found). value (record { elements = elements t.tree; to = t.to }))
          ≡ refusal n p
      go zero = rw e
      go (suc d) = rw e

  pub passing_deep : (v : Stretch) → here s at ≡ value v → D ≡ 0 → passing D s at ≡ refusal (by 21) at
  unfolding passing tree_at and_then
  passing_deep v e z = rw (z, e)

  module _ (v : Stretch) (e : here s at ≡ value v) (d : ℕ) (level : D ≡ suc d) where
    abbrev told : Found → Read Passed
    told t = value (record { elements = elements t.tree; to = t.to })

    abbrev found : Forest → Read Passed
    found f = value (record { elements = suc (all_elements f); to = v.to })

    by_inside : passing D s at
        ≡ cond (is_constructed (get_or s at 0)) (and_then (forest (tree_at d) (take v.to s) v.from) found)
        (value (record { elements = 1; to = v.to }))
    unfolding passing tree_at and_then inside elements
    by_inside = rw (level, e) (go (is_constructed (get_or s at 0)) (forest (tree_at d) (take v.to s) v.from))
      where
        go : (b : Bool) (m : Read Forest)
            → and_then (cond b (and_then m (λ (f : Forest). value (record { tree = holds (tag_here s at) f; to = v.to })))
            (value (record { tree = one (tag_here s at) (cut s v); to = v.to }))) told
            ≡ cond b (and_then m found) (value (record { elements = 1; to = v.to }))
        go true (value f) = refl
        go true (refusal n p) = refl
        go false m = refl

    -- one that holds no others, since it is not constructed or is empty
    pub passing_one : is_constructed (get_or s at 0) && ltb v.from v.to ≡ false
        → passing D s at ≡ value (record { elements = 1; to = v.to })
    unfolding and_then all_elements
    passing_one o = by_inside ∙ go (is_constructed (get_or s at 0)) o
      where
        go : (b : Bool) → b && ltb v.from v.to ≡ false
            → cond b (and_then (forest (tree_at d) (take v.to s) v.from) found) (value (record { elements = 1; to = v.to }))
            ≡ value (record { elements = 1; to = v.to })
        go false q = refl
        go true q =
            let w = here_within s at v e in
            let long : length (take v.to s) ≡ v.to = length-take-le v.to s w.2 in
            let past : v.to ≤ v.from = ltb-false v.from v.to q in
            rw (forest_done (tree_at d) (take v.to s) v.from (omega (arith, long, past)))

    module _ (o : is_constructed (get_or s at 0) && ltb v.from v.to ≡ true) where
      by_list : passing D s at ≡ and_then (counting d (take v.to s) v.from)
          (λ (n : ℕ). value (record { elements = n + 1; to = v.to }))
      unfolding counting and_then
      by_list =
          by_inside ∙ rw (and_both (is_constructed (get_or s at 0)) _ o).0 (go (forest (tree_at d) (take v.to s) v.from))
        where
          go : (m : Read Forest) → and_then m found ≡ and_then (and_then m (λ (f : Forest). value (all_elements f)))
              (λ (n : ℕ). value (record { elements = n + 1; to = v.to }))
          go (value f) = rw (add-one (all_elements f))
          go (refusal n p) = refl

      pub passing_held : (n : ℕ) → counting d (take v.to s) v.from ≡ value n
          → passing D s at ≡ value (record { elements = n + 1; to = v.to })
      unfolding and_then
      passing_held n f = by_list ∙ rw f

      pub passing_stopped : (n : Why) (p : ℕ) → counting d (take v.to s) v.from ≡ refusal n p
          → passing D s at ≡ refusal n p
      unfolding and_then
      passing_stopped n p f = by_list ∙ rw f
