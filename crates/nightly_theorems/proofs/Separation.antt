-- SEPARATION in a list: the stretches of two different houses have no octet in common (`stretches_apart`), and those of all
-- houses, in their order, are the list where it is accepted (`stretches_all`). A refused list has none (`refused_empty`), nor has
-- a number that is no house's (`no_house_empty`); and each ends within the list (`stretch_within`).
use Prim.Native.Nat.{ℕ, zero, suc, ◌+◌, ◌≤◌, ◌<◌}
use mathlib.Core.Path.{◌≡◌, refl, ap, sym, ◌∙◌}
use mathlib.Core.Bool.{Bool, true, false, cond, false≢true}
use mathlib.Core.List.{List, [], ◌∷◌, ◌++◌}
use native.Mathlib.Omega.{arith}
use borrow.Author.Tests.{eqb-true, ltb-true, ltb-false, lt-ltb, leb-true}
use lib.Dec.{eqb, ltb, leb}
use lib.ListN.{length, length-append}
use Rattle.lent.proofs.Bools.{and_both}
use Rattle.refusal.specs.Numbers.{Why}
use Rattle.zone.specs.Octets.{AreOctets}
use Rattle.tlv.specs.declared.Stretch.{Stretch}
use Rattle.tlv.specs.Read.{Read, value, refusal, and_then}
use Rattle.entry.specs.Entry.{is_house}
use Rattle.nightly.specs.declared.place.Place.{Place}
use Rattle.nightly.specs.List.{entries, look_over, stretch_in, house_stretch}
use Rattle.run_theorems.specs.Runs.{Line, is_kept, all_kept, joined}
use Rattle.run_theorems.specs.Separation.{lines_of}
use Rattle.run_theorems.proofs.ListReadBack.{kept_both}
use Rattle.nightly_theorems.specs.Listed.{octets_of, InOrder}
use Rattle.nightly_theorems.specs.Stretches.{lines_below, stretch_from, Within, stretches_to}
use Rattle.nightly_theorems.proofs.Acceptance.{never_refused, count_exactly}
use Rattle.nightly_theorems.proofs.Houses.{AllFrom}
use Rattle.nightly_theorems.proofs.Stretches.{joined_append, none_below, below_next, in_order_ascends, stretch_exactly}
use Rattle.nightly_theorems.proofs.Stretches.{parts, cut_exactly}

-- ---- a refused list

abbrev none : Stretch
none = record { from = 0; to = 0 }

pub refused_empty : (w : List ℕ) (why : Why) (p h : ℕ) → look_over w ≡ refusal why p
    → house_stretch w h ≡ record { from = 0; to = 0 }
unfolding look_over house_stretch stretch_in and_then
refused_empty w why p h e = go (entries w) e
  where
    go : (m : Read (List Place)) → and_then m (λ ps. value (length ps)) ≡ refusal why p → stretch_in h m ≡ none
    go (value ps) q = absurd (never_refused (length ps) why p q)
    go (refusal x y) q = refl

-- any octets are refused, or are lines in their order
data Either (w : List ℕ) : Type 0 where
  denied : (why : Why) (p : ℕ) → look_over w ≡ refusal why p → Either w
  listed : (ls : List Line) → InOrder ls → w ≡ joined ls → Either w

either : (w : List ℕ) → AreOctets w → Either w
either w small = go (look_over w) refl
  where
    go : (m : Read ℕ) → look_over w ≡ m → Either w
    go (value n) e = let h = (count_exactly w small n).0 e in listed h.0 h.1 h.2
    go (refusal why p) e = denied why p e

-- ---- two houses

below_fewer : (a b : ℕ) (ls : List Line) → a ≤ b → length (joined (lines_below a ls)) ≤ length (joined (lines_below b ls))
unfolding lines_below joined
below_fewer a b [] h = omega arith
below_fewer a b (l ∷ ls) h = go (ltb l.house a) refl (ltb l.house b) refl (below_fewer a b ls h)
  where
    go : (x : Bool) → ltb l.house a ≡ x → (y : Bool) → ltb l.house b ≡ y
        → length (joined (lines_below a ls)) ≤ length (joined (lines_below b ls))
        → length (joined (cond x (l ∷ lines_below a ls) (lines_below a ls)))
        ≤ length (joined (cond y (l ∷ lines_below b ls) (lines_below b ls)))
    go true p true q ih =
        rw (length-append (octets_of l) (joined (lines_below a ls)), length-append (octets_of l) (joined (lines_below b ls)))
        (omega (arith, ih))
    go true p false q ih = absurd (omega (arith, h, ltb-true l.house a p, ltb-false l.house b q))
    go false p true q ih = rw (length-append (octets_of l) (joined (lines_below b ls))) (omega (arith, ih))
    go false p false q ih = ih

within_own : (p at : ℕ) (own : List Line) → Within p (stretch_from at own) → (at ≤ p) × (p < at + length (joined own))
unfolding stretch_from
within_own p at [] h = absurd (omega (arith, h.1))
within_own p at (l ∷ ls) h = h

module _ (ls : List Line) (o : InOrder ls) where
  abbrev octets_below : ℕ → ℕ
  octets_below h = length (joined (lines_below h ls))

  own_octets : (h : ℕ) → octets_below h + length (joined (lines_of h ls)) ≡ octets_below (suc h)
  own_octets h =
      sym (length-append (joined (lines_below h ls)) (joined (lines_of h ls)))
      ∙ (ap length (sym (joined_append (lines_below h ls) (lines_of h ls)))
      ∙ ap (λ (x : List Line). length (joined x)) (below_next h ls (in_order_ascends ls o)))

  one_below : (h k p : ℕ) → h < k → Within p (house_stretch (joined ls) h) → Within p (house_stretch (joined ls) k) → ⊥
  one_below h k p less a b =
      let x = within_own p (octets_below h) (lines_of h ls) (rw (stretch_exactly ls o h) at a) in
      let y = within_own p (octets_below k) (lines_of k ls) (rw (stretch_exactly ls o k) at b) in
      let up = below_fewer (suc h) k ls (omega (arith, less)) in
      omega (arith, x.1, y.0, own_octets h, up)

  lines_apart : (h k p : ℕ) → (h ≡ k → ⊥) → Within p (house_stretch (joined ls) h) → Within p (house_stretch (joined ls) k) → ⊥
  lines_apart h k p other a b = go (ltb h k) refl
    where
      go : (x : Bool) → ltb h k ≡ x → ⊥
      go true q = one_below h k p (ltb-true h k q) a b
      go false q = one_below k h p (omega (arith, ltb-false h k q, other)) b a

pub stretches_apart : (w : List ℕ) → AreOctets w → (h k : ℕ) → (h ≡ k → ⊥)
    → (p : ℕ) → Within p (house_stretch w h) → Within p (house_stretch w k) → ⊥
stretches_apart w small h k other p a b = go (either w small)
  where
    go : Either w → ⊥
    go (denied why q e) = let c = rw (refused_empty w why q h e) at a in omega (arith, c.1)
    go (listed ls o e) = lines_apart ls o h k p other (rw e at a) (rw e at b)

-- ---- within what was lent

end_within : (at n : ℕ) (own : List Line) → at + length (joined own) ≤ n
    → ((stretch_from at own).from ≤ (stretch_from at own).to) × ((stretch_from at own).to ≤ n)
unfolding stretch_from
end_within at n [] h = (omega arith, omega arith)
end_within at n (l ∷ ls) h = (omega arith, h)

-- a stretch ends no further than the list
pub stretch_within : (w : List ℕ) → AreOctets w → (h : ℕ)
    → ((house_stretch w h).from ≤ (house_stretch w h).to) × ((house_stretch w h).to ≤ length w)
stretch_within w small h = go (either w small)
  where
    go : Either w → ((house_stretch w h).from ≤ (house_stretch w h).to) × ((house_stretch w h).to ≤ length w)
    go (denied why q e) = rw (refused_empty w why q h e) (omega arith, omega arith)
    go (listed ls o e) =
        let p = parts ls o h in
        let own = joined (lines_of h ls) in
        let long = ap length p.1 ∙ (length-append (joined (lines_below h ls)) (own ++ joined p.0)
        ∙ ap (λ (n : ℕ). length (joined (lines_below h ls)) + n) (length-append own (joined p.0))) in
        rw (e, stretch_exactly ls o h)
        (end_within (length (joined (lines_below h ls))) (length (joined ls)) (lines_of h ls) (omega (arith, long)))

-- ---- all houses

kept_from : (ls : List Line) → all_kept ls ≡ true → AllFrom 1 ls
unfolding AllFrom all_kept is_house
kept_from [] k = tt
kept_from (l ∷ ls) k =
    let both = and_both (is_kept l) (all_kept ls) k in
    let house = (kept_both l both.0).0 in
    (leb-true 1 l.house (and_both (leb 1 l.house) (leb l.house 32767) house).0, kept_from ls both.1)

kept_below : (ls : List Line) → all_kept ls ≡ true → lines_below 32768 ls ≡ ls
unfolding lines_below all_kept is_house
kept_below [] k = refl
kept_below (l ∷ ls) k =
    let both = and_both (is_kept l) (all_kept ls) k in
    let house = (kept_both l both.0).0 in
    let most = leb-true l.house 32767 (and_both (leb 1 l.house) (leb l.house 32767) house).1 in
    rw (lt-ltb l.house 32768 (omega (arith, most))) (ap (λ (x : List Line). l ∷ x) (kept_below ls both.1))

stretches_below : (ls : List Line) → InOrder ls → (n : ℕ) → stretches_to (joined ls) n ≡ joined (lines_below (suc n) ls)
unfolding stretches_to joined
stretches_below ls o zero = sym (ap joined (none_below 1 ls (kept_from ls o.kept)))
stretches_below ls o (suc n) =
    rw (stretches_below ls o n, cut_exactly ls o (suc n))
    (sym (joined_append (lines_below (suc n) ls) (lines_of (suc n) ls))
    ∙ ap joined (below_next (suc n) ls (in_order_ascends ls o)))

pub stretches_all : (w : List ℕ) → AreOctets w → (n : ℕ) → look_over w ≡ value n → stretches_to w 32767 ≡ w
stretches_all w small n e =
    let h = (count_exactly w small n).0 e in
    rw h.2 (stretches_below h.0 h.1 32767 ∙ ap joined (kept_below h.0 h.1.kept))

-- ---- no house

none_kept : (h : ℕ) (ls : List Line) → is_house h ≡ false → all_kept ls ≡ true → lines_of h ls ≡ []
unfolding lines_of all_kept
none_kept h [] nobody k = refl
none_kept h (l ∷ ls) nobody k =
    let both = and_both (is_kept l) (all_kept ls) k in
    go (eqb l.house h) refl (kept_both l both.0).0 (none_kept h ls nobody both.1)
  where
    go : (b : Bool) → eqb l.house h ≡ b → is_house l.house ≡ true → lines_of h ls ≡ []
        → cond b (l ∷ lines_of h ls) (lines_of h ls) ≡ []
    go true q house ih = absurd (false≢true (sym nobody ∙ (ap is_house (sym (eqb-true l.house h q)) ∙ house)))
    go false q house ih = ih

-- a house without a line
pub no_line_empty : (ls : List Line) → InOrder ls → (h : ℕ) → lines_of h ls ≡ []
    → house_stretch (joined ls) h ≡ record { from = 0; to = 0 }
unfolding stretch_from
no_line_empty ls o h none_there = stretch_exactly ls o h ∙ rw none_there

pub no_house_empty : (w : List ℕ) → AreOctets w → (h : ℕ) → is_house h ≡ false → house_stretch w h ≡ record { from = 0; to = 0 }
no_house_empty w small h nobody = go (either w small)
  where
    go : Either w → house_stretch w h ≡ none
    go (denied why q e) = refused_empty w why q h e
    go (listed ls o e) = rw e (no_line_empty ls o h (none_kept h ls nobody o.kept))
