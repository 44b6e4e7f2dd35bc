-- What one answer of a run's reader says of the place where it reads: that it is the end, that the next offset is behind it, or
-- that it is refused by 18 there.
use Rattle.std.specs.Prelude.{Option, Some, None}
use Rattle.zone.specs.declared.form.Form.{Form}
use Prim.Native.Nat.{ℕ, ◌+◌, ◌<◌}
use mathlib.Core.Path.{◌≡◌, refl, sym}
use mathlib.Core.Logic.{◌⊎◌, inl, inr}
use mathlib.Core.Bool.{Bool, true, false, cond}
use mathlib.Core.List.{List}
use native.Mathlib.Omega.{arith}
use borrow.Author.Tests.{eqb-true, eqb-false}
use lib.Dec.{eqb, ltb}
use lib.ListN.{length, drop}
use Rattle.refusal.specs.Numbers.{Why, by}
use Rattle.zone.specs.Record.{blank}
use Rattle.runs.specs.Run.{Onward, next, none, refused, house_in, form_in, record_in, size_in, is_entry, entry_by}
use Rattle.runs.specs.Run.{no_entry, read_entry}

pub none_not_refused : (k : Why) (p : ℕ) → none ≡ refused k p → ⊥
none_not_refused k p e = let z : ◌≡◌ {A = ℕ} 0 1 = cc in omega arith

pub next_not_refused : (n : ℕ) (k : Why) (p : ℕ) → next n ≡ refused k p → ⊥
next_not_refused n k p e = let z : ◌≡◌ {A = ℕ} 0 1 = cc in omega arith

pub next_not_none : (n : ℕ) → next n ≡ none → ⊥
next_not_none n e = let z : ◌≡◌ {A = ℕ} 0 1 = cc in omega arith

-- an entry is passed over, or the answer is 18 here
entry_or_not : (told : Option Form) (s : List ℕ) (at : ℕ) (o : Onward) → (entry_by told s at).onward ≡ o
    → (o ≡ next (at + size_in s)) ⊎ (o ≡ refused (by 18) at)
unfolding entry_by no_entry
entry_or_not None s at o e = inr (sym e)
entry_or_not (Some f) s at o e = go (is_entry f s) e
  where
    go : (x : Bool)
        → (cond x (record { onward = next (at + size_in s); house = house_in s; kept = record_in f s })
        (no_entry at)).onward ≡ o
        → (o ≡ next (at + size_in s)) ⊎ (o ≡ refused (by 18) at)
    go true h = inl (sym h)
    go false h = inr (sym h)

module _ (w : List ℕ) (at : ℕ) where
  pub none_end : (read_entry w at).onward ≡ none → at ≡ length w
  unfolding read_entry no_entry
  none_end e = go (eqb at (length w)) refl (ltb (length w) at) e
    where
      other : (none ≡ next (at + size_in (drop at w))) ⊎ (none ≡ refused (by 18) at) → ⊥
      other (inl h) = next_not_none (at + size_in (drop at w)) (sym h)
      other (inr h) = none_not_refused _ at h

      go : (a : Bool) → eqb at (length w) ≡ a → (b : Bool)
          → (cond a (record { onward = none; house = 0; kept = blank })
          (cond b (no_entry at) (entry_by (form_in (drop at w)) (drop at w) at))).onward ≡ none
          → at ≡ length w
      go true p b h = eqb-true at (length w) p
      go false p true h = absurd (none_not_refused _ at (sym h))
      go false p false h = absurd (other (entry_or_not (form_in (drop at w)) (drop at w) at none h))

  -- the next offset is behind this one
  pub next_behind : (n : ℕ) → (read_entry w at).onward ≡ next n → at < n
  unfolding read_entry no_entry size_in
  next_behind n e = go (eqb at (length w)) (ltb (length w) at) e
    where
      other : (next n ≡ next (at + size_in (drop at w))) ⊎ (next n ≡ refused (by 18) at) → at < n
      other (inl h) = let same : n ≡ at + size_in (drop at w) = cc in omega (arith, same)
      other (inr h) = absurd (next_not_refused n _ at h)

      go : (a b : Bool)
          → (cond a (record { onward = none; house = 0; kept = blank })
          (cond b (no_entry at) (entry_by (form_in (drop at w)) (drop at w) at))).onward ≡ next n
          → at < n
      go true b h = absurd (next_not_none n (sym h))
      go false true h = absurd (next_not_refused n _ at (sym h))
      go false false h = other (entry_or_not (form_in (drop at w)) (drop at w) at (next n) h)

  pub refused_here : (k : Why) (p : ℕ) → (read_entry w at).onward ≡ refused k p
      → (refused k p ≡ refused (by 18) at) × (at ≡ length w → ⊥)
  unfolding read_entry no_entry
  refused_here k p e = go (eqb at (length w)) refl (ltb (length w) at) e
    where
      other : (refused k p ≡ next (at + size_in (drop at w))) ⊎ (refused k p ≡ refused (by 18) at)
          → refused k p ≡ refused (by 18) at
      other (inl h) = absurd (next_not_refused (at + size_in (drop at w)) k p (sym h))
      other (inr h) = h

      go : (a : Bool) → eqb at (length w) ≡ a → (b : Bool)
          → (cond a (record { onward = none; house = 0; kept = blank })
          (cond b (no_entry at) (entry_by (form_in (drop at w)) (drop at w) at))).onward ≡ refused k p
          → (refused k p ≡ refused (by 18) at) × (at ≡ length w → ⊥)
      go true q b h = absurd (none_not_refused k p h)
      go false q true h = (sym h, eqb-false at (length w) q)
      go false q false h = (other (entry_or_not (form_in (drop at w)) (drop at w) at (refused k p) h), eqb-false at (length w) q)
