-- What one pass over a list saw, step by step; and of a house it is the stretch from the first of its entries to the last.
use Prim.Native.Nat.{ℕ, zero, suc, ◌+◌, ◌≤◌, ◌<◌}
use mathlib.Core.Path.{◌≡◌, refl, ap, sym, ◌∙◌}
use mathlib.Core.Bool.{Bool, true, false, cond}
use mathlib.Core.List.{List, [], ◌∷◌}
use native.Mathlib.Nat.{add-zero, zero-add}
use native.Mathlib.Omega.{arith}
use borrow.Author.Tests.{ne_eqb, leb-true, leb-false}
use lib.Dec.{eqb, leb}
use lib.ListN.{length, drop_of_length-le}
use Rattle.refusal.specs.Numbers.{Why}
use Rattle.tlv.specs.declared.Stretch.{Stretch}
use Rattle.tlv.specs.Read.{Read, value, refusal, and_then}
use Rattle.tlv.proofs.Joined.{never_value, same_value, first_value}
use Rattle.nightly.specs.declared.place.Place.{Place}
use Rattle.nightly.specs.declared.walk.Seen.{Seen}
use Rattle.nightly.specs.Key.{key_at}
use Rattle.nightly.specs.List.{entry_at, entries_from, entries, look_over}
use Rattle.nightly.specs.List.{own_of, last_end, stretch_over, stretch_in, house_stretch}
use Rattle.nightly.specs.Inner.Seen.{grown, grown_over, seen_of, walked}
use Rattle.nightly.proofs.EntryHere.{entry_behind}
use Rattle.nightly.proofs.Walking.{before, from_end, from_next, from_refused}
use Rattle.nightly.proofs.Walking.{left, left_next, left_refused, left_done}

-- ---- the loop

pub none_before : (w : List ℕ) → key_at w (length w) ≡ []
unfolding key_at
none_before w = let all : length w ≤ length w = omega arith in rw (drop_of_length-le w all)

module _ (w key : List ℕ) (at house n : ℕ) (v : Stretch) where
  pub seen_next : (p : Place) → at < length w → entry_at w key at ≡ value p
      → seen_of house (n + 1) (grown house v p) (left w (key_at w at) p.end) ≡ seen_of house n v (left w key at)
  unfolding seen_of before and_then grown_over
  seen_next p h e = sym (ap (seen_of house n v) (left_next w key at p h e) ∙ go (left w (key_at w at) p.end))
    where
      go : (rest : Read (List Place)) → seen_of house n v (before p rest) ≡ seen_of house (n + 1) (grown house v p) rest
      go (value ps) = let count : n + suc (length ps) ≡ n + 1 + length ps = omega arith in rw count
      go (refusal why place) = refl

  pub seen_refused : (why : Why) (place : ℕ) → at < length w → entry_at w key at ≡ refusal why place
      → refusal why place ≡ seen_of house n v (left w key at)
  unfolding seen_of
  seen_refused why place h e = rw (left_refused w key at why place h e)

  pub seen_done : length w ≤ at → value (record { entries = n; own = v }) ≡ seen_of house n v (left w key at)
  unfolding seen_of grown_over
  seen_done h = rw (left_done w key at h, add-zero n)

-- ---- the stretch of a house

-- no entry ends at 0
AllEnd : List Place → Type 0
AllEnd [] = Unit {0}
AllEnd (p ∷ ps) = (p.end ≡ 0 → ⊥) × AllEnd ps

all_end : (k : ℕ) (w key : List ℕ) (at : ℕ) (ps : List Place) → entries_from k w key at ≡ value ps → AllEnd ps
unfolding AllEnd entries_from and_then before
all_end zero w key at ps e = absurd (never_value _ at ps e)
all_end (suc k) w key at ps e = go (leb (length w) at) refl (λ p qs r. all_end k w (key_at w at) p.end qs r)
  where
    go : (x : Bool) → leb (length w) at ≡ x
        → ((p : Place) (qs : List Place) → entries_from k w (key_at w at) p.end ≡ value qs → AllEnd qs) → AllEnd ps
    go true q ih = rw (← same_value (sym (from_end w key at k (leb-true (length w) at q)) ∙ e)) tt
    go false q ih = here (entry_at w key at) refl
      where
        here : (r : Read Place) → entry_at w key at ≡ r → AllEnd ps
        here (value p) f =
            let rest = sym (from_next w key at (leb-false (length w) at q) k p f) ∙ e in
            let a = first_value (entries_from k w (key_at w at) p.end) (λ (qs : List Place). value (p ∷ qs)) ps rest in
            let behind = entry_behind w key at p f in
            rw (← same_value a.2) (λ z. omega (arith, behind, z), ih p a.0 a.1)
        here (refusal why place) f =
            absurd (never_value why place ps (sym (from_refused w key at (leb-false (length w) at q) k why place f) ∙ e))

-- what was seen of a house goes on to the last of its entries
grown_on : (house : ℕ) (v : Stretch) (ps : List Place) → (v.to ≡ 0 → ⊥) → AllEnd ps
    → grown_over house v ps ≡ record { from = v.from; to = last_end v.to (own_of house ps) }
unfolding AllEnd grown_over grown own_of last_end
grown_on house v [] some all = refl
grown_on house v (p ∷ ps) some all =
    go (eqb p.house house) (λ u k. grown_on house u ps k all.1)
  where
    go : (x : Bool)
        → ((u : Stretch) → (u.to ≡ 0 → ⊥)
        → grown_over house u ps ≡ record { from = u.from; to = last_end u.to (own_of house ps) })
        → grown_over house
        (cond x (cond (eqb v.to 0) (record { from = p.start; to = p.end }) (record { from = v.from; to = p.end })) v) ps
        ≡ record { from = v.from; to = last_end v.to (cond x (p ∷ own_of house ps) (own_of house ps)) }
    go true ih = rw (ne_eqb v.to 0 some) (ih (record { from = v.from; to = p.end }) all.0)
    go false ih = ih v some

grown_all : (house : ℕ) (ps : List Place) → AllEnd ps
    → grown_over house (record { from = 0; to = 0 }) ps ≡ stretch_over (own_of house ps)
unfolding AllEnd grown_over grown own_of stretch_over
grown_all house [] all = refl
grown_all house (p ∷ ps) all = go (eqb p.house house) (grown_all house ps all.1)
  where
    go : (x : Bool) → grown_over house (record { from = 0; to = 0 }) ps ≡ stretch_over (own_of house ps)
        → grown_over house (cond x (record { from = p.start; to = p.end }) (record { from = 0; to = 0 })) ps
        ≡ stretch_over (cond x (p ∷ own_of house ps) (own_of house ps))
    go true ih = grown_on house (record { from = p.start; to = p.end }) ps all.0 all.1
    go false ih = ih

-- ---- what the calls answer

module _ (w : List ℕ) (house : ℕ) where
  pub seen_counted : (s : Seen) → value s ≡ walked w house → value s.entries ≡ look_over w
  unfolding walked seen_of look_over and_then
  seen_counted s e = go (entries w) e
    where
      go : (m : Read (List Place)) → value s ≡ seen_of house 0 (record { from = 0; to = 0 }) m
          → value s.entries ≡ and_then m (λ ps. value (length ps))
      go (value ps) q = ap (λ (x : Seen). value x.entries) (same_value q) ∙ rw (zero-add (length ps))
      go (refusal why place) q = absurd (never_value why place s (sym q))

  pub refused_counted : (why : Why) (place : ℕ) → refusal why place ≡ walked w house → refusal why place ≡ look_over w
  unfolding walked seen_of look_over and_then
  refused_counted why place e = go (entries w) e
    where
      go : (m : Read (List Place)) → refusal why place ≡ seen_of house 0 (record { from = 0; to = 0 }) m
          → refusal why place ≡ and_then {B = ℕ} m (λ ps. value (length ps))
      go (value ps) q = absurd (never_value why place _ q)
      go (refusal x y) q = ap again q
        where
          again : Read Seen → Read ℕ
          again (value s) = refusal why place
          again (refusal a b) = refusal a b

  pub seen_own : (s : Seen) → value s ≡ walked w house → s.own ≡ house_stretch w house
  unfolding walked seen_of house_stretch stretch_in entries
  seen_own s e = go (entries w) refl e
    where
      go : (m : Read (List Place)) → entries w ≡ m → value s ≡ seen_of house 0 (record { from = 0; to = 0 }) m
          → s.own ≡ stretch_in house m
      go (value ps) r q =
          ap (λ (x : Seen). x.own) (same_value q) ∙ grown_all house ps (all_end (suc (length w)) w [] 0 ps r)
      go (refusal why place) r q = absurd (never_value why place s (sym q))

  pub refused_own : (why : Why) (place : ℕ) → refusal why place ≡ walked w house
      → record { from = 0; to = 0 } ≡ house_stretch w house
  unfolding walked seen_of house_stretch stretch_in
  refused_own why place e = go (entries w) e
    where
      go : (m : Read (List Place)) → refusal why place ≡ seen_of house 0 (record { from = 0; to = 0 }) m
          → record { from = 0; to = 0 } ≡ stretch_in house m
      go (value ps) q = absurd (never_value why place _ q)
      go (refusal x y) q = refl
