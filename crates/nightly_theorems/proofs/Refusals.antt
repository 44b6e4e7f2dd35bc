-- DEMAND 1: every refusal of a list is by 18 or 23, at a place before its end (`list_told`).
use Prim.Native.Nat.{ℕ, zero, suc, ◌+◌, ◌≤◌, ◌<◌}
use mathlib.Core.Path.{◌≡◌, refl, ap}
use mathlib.Core.Bool.{Bool, true, false}
use mathlib.Core.List.{List, [], ◌∷◌}
use native.Mathlib.Omega.{arith}
use borrow.Author.Tests.{leb-true, leb-false}
use lib.Dec.{leb}
use lib.ListN.{length}
use Rattle.refusal.specs.Numbers.{Why, by}
use Rattle.refusal.specs.Calls.{of_list, tells}
use Rattle.refusal.specs.Outcome.{unless}
use Rattle.refusal.proofs.Each.{each_unless}
use Rattle.tlv.specs.Read.{Read, value, refusal, outcome_in}
use Rattle.tlv.proofs.Each.{EachRead, each_value, each_refusal, each_then, each_checked}
use Rattle.runs.specs.Run.{Onward, next, none, refused, read_entry}
use Rattle.runs.proofs.Onward.{refused_here}
use Rattle.nightly.specs.declared.place.Place.{Place}
use Rattle.nightly.specs.Key.{key_at, is_below}
use Rattle.nightly.specs.List.{stands_at, entry_at, entries_from, entries, look_over}
use Rattle.nightly.proofs.EntryHere.{entry_behind}
use Rattle.nightly.proofs.Walking.{before, from_end, from_next, from_refused}

module _ (w : List ℕ) where
  -- what a refusal has: one of the call's numbers, and a place before the list's end
  abbrev P : Why → ℕ → Type 0
  P why p = (tells of_list why ≡ true) × (p < length w)

  entry_told : (key : List ℕ) (at : ℕ) → at < length w → EachRead P (entry_at w key at)
  unfolding entry_at stands_at
  entry_told key at here =
      each_then P (stands_at (read_entry w at).onward (read_entry w at).house at) _ (go (read_entry w at).onward refl)
      (λ p e. each_checked P (unless (is_below key (key_at w at)) 23 at) (value p)
      (each_unless P (is_below key (key_at w at)) 23 at (refl, here)) (each_value P p))
    where
      go : (o : Onward) → (read_entry w at).onward ≡ o → EachRead P (stands_at o (read_entry w at).house at)
      go (next n) e = each_value P (record { start = at; end = n; house = (read_entry w at).house })
      go none e = each_refusal P Place (by 18) at (refl, here)
      go (refused why p) e =
          let told = (refused_here w at why p e).0 in
          let number : why ≡ by 18 = cc in
          let place : p ≡ at = cc in
          each_refusal P Place why p (rw (number, place) (refl, here))

  abbrev nothing : List Place
  nothing = []

  from_told : (k : ℕ) (key : List ℕ) (at : ℕ) → length w ≤ at + k → EachRead P (entries_from (suc k) w key at)
  unfolding before outcome_in
  from_told zero key at h = rw (from_end w key at zero (omega arith)) (each_value P nothing)
  from_told (suc k) key at h =
      go (leb (length w) at) refl (λ (p : Place) i. from_told k (key_at w at) p.end (omega (arith, h, i)))
    where
      more : at < length w → ((p : Place) → at < p.end → EachRead P (entries_from (suc k) w (key_at w at) p.end))
          → EachRead P (entries_from (suc (suc k)) w key at)
      more here rest = step (entry_at w key at) refl
        where
          step : (m : Read Place) → entry_at w key at ≡ m → EachRead P (entries_from (suc (suc k)) w key at)
          step (value p) e =
              rw (from_next w key at here (suc k) p e)
              (each_then P (entries_from (suc k) w (key_at w at) p.end) _ (rest p (entry_behind w key at p e))
              (λ ps q. each_value P (p ∷ ps)))
          step (refusal why place) e =
              rw (from_refused w key at here (suc k) why place e)
              (each_refusal P (List Place) why place (entry_told key at here why place (ap outcome_in e)))

      go : (b : Bool) → leb (length w) at ≡ b
          → ((p : Place) → at < p.end → EachRead P (entries_from (suc k) w (key_at w at) p.end))
          → EachRead P (entries_from (suc (suc k)) w key at)
      go true q rest = rw (from_end w key at (suc k) (leb-true (length w) at q)) (each_value P nothing)
      go false q rest = more (leb-false (length w) at q) rest

  list_each : EachRead P (look_over w)
  unfolding look_over entries
  list_each =
      each_then P (entries w) _ (from_told (length w) [] 0 (omega arith)) (λ ps e. each_value P (length ps))

  pub list_told : (why : Why) (p : ℕ) → look_over w ≡ refusal why p → (tells of_list why ≡ true) × (p < length w)
  unfolding outcome_in
  list_told why p e = list_each why p (ap outcome_in e)
