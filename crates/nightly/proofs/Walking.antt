-- A walk over a list goes on from the end of each entry, whatever number of steps is allowed, as long as it is enough.
use Prim.Native.Nat.{ℕ, zero, suc, ◌+◌, ◌≤◌, ◌<◌}
use mathlib.Core.Path.{◌≡◌, refl, ap, sym, ◌∙◌}
use mathlib.Core.Bool.{Bool, true, false}
use mathlib.Core.List.{List, [], ◌∷◌}
use native.Mathlib.Omega.{arith}
use borrow.Author.Tests.{le-leb, lt-leb, leb-true, leb-false}
use lib.Dec.{leb}
use lib.ListN.{length}
use Rattle.refusal.specs.Numbers.{Why}
use Rattle.tlv.specs.Read.{Read, value, refusal, and_then}
use Rattle.nightly.specs.declared.place.Place.{Place}
use Rattle.nightly.specs.Key.{key_at}
use Rattle.nightly.specs.List.{entry_at, entries_from}
use Rattle.nightly.proofs.EntryHere.{entry_behind}

-- an entry before those that follow it
unfoldable pub before : Place → Read (List Place) → Read (List Place)
before p rest = and_then rest (λ ps. value (p ∷ ps))

module _ (w key : List ℕ) (at : ℕ) where
  pub from_end : (k : ℕ) → length w ≤ at → entries_from (suc k) w key at ≡ value []
  unfolding entries_from
  from_end k h = rw (le-leb (length w) at h)

  module _ (here : at < length w) where
    pub from_next : (k : ℕ) (p : Place) → entry_at w key at ≡ value p
        → entries_from (suc k) w key at ≡ before p (entries_from k w (key_at w at) p.end)
    unfolding entries_from and_then before
    from_next k p e = rw (lt-leb (length w) at here, e)

    pub from_refused : (k : ℕ) (why : Why) (place : ℕ) → entry_at w key at ≡ refusal why place
        → entries_from (suc k) w key at ≡ refusal why place
    unfolding entries_from and_then
    from_refused k why place e = rw (lt-leb (length w) at here, e)

-- any number of steps that is enough gives the same
pub from_enough : (k m : ℕ) (w key : List ℕ) (at : ℕ) → length w ≤ at + k → length w ≤ at + m
    → entries_from (suc k) w key at ≡ entries_from (suc m) w key at
from_enough zero m w key at a b = from_end w key at zero (omega arith) ∙ sym (from_end w key at m (omega arith))
from_enough (suc k) zero w key at a b =
    from_end w key at (suc k) (omega arith) ∙ sym (from_end w key at zero (omega arith))
from_enough (suc k) (suc m) w key at a b =
    go (leb (length w) at) refl (entry_at w key at) refl
    (λ p h. from_enough k m w (key_at w at) p.end (omega arith) (omega arith))
  where
    go : (x : Bool) → leb (length w) at ≡ x → (r : Read Place) → entry_at w key at ≡ r
        → ((p : Place) → at < p.end → entries_from (suc k) w (key_at w at) p.end ≡ entries_from (suc m) w (key_at w at) p.end)
        → entries_from (suc (suc k)) w key at ≡ entries_from (suc (suc m)) w key at
    go true q r e ih =
        let h = leb-true (length w) at q in
        from_end w key at (suc k) h ∙ sym (from_end w key at (suc m) h)
    go false q (value p) e ih =
        let h = leb-false (length w) at q in
        from_next w key at h (suc k) p e
        ∙ (ap (before p) (ih p (entry_behind w key at p e)) ∙ sym (from_next w key at h (suc m) p e))
    go false q (refusal why place) e ih =
        let h = leb-false (length w) at q in
        from_refused w key at h (suc k) why place e ∙ sym (from_refused w key at h (suc m) why place e)

-- ---- what a loop goes by

-- the entries from a place on, behind a key
unfoldable pub left : (w key : List ℕ) (at : ℕ) → Read (List Place)
left w key at = entries_from (suc (length w)) w key at

module _ (w key : List ℕ) (at : ℕ) where
  pub left_next : (p : Place) → at < length w → entry_at w key at ≡ value p
      → left w key at ≡ before p (left w (key_at w at) p.end)
  unfolding left
  left_next p h e =
      from_enough (length w) (suc (length w)) w key at (omega arith) (omega arith) ∙ from_next w key at h (suc (length w)) p e

  pub left_refused : (why : Why) (place : ℕ) → at < length w → entry_at w key at ≡ refusal why place
      → left w key at ≡ refusal why place
  unfolding left
  left_refused why place h e = from_refused w key at h (length w) why place e

  pub left_done : length w ≤ at → left w key at ≡ value []
  unfolding left
  left_done h = from_end w key at (length w) h
