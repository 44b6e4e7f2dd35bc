-- The laws of `first`, over the test p: by which a search loop steps, and what the library's `position` says of it.
use mathlib.Core.Path.{◌≡◌, refl, ◌∙◌, sym}
use mathlib.Core.List.{List, [], ◌∷◌}
use mathlib.Core.Bool.{Bool, true, false, cond, not}
use Prim.Native.Nat.{ℕ, zero, suc, ◌+◌, ◌≤◌, ◌<◌}
use native.Mathlib.Nat.{add-zero}
use native.Mathlib.Numerals.{add-one}
use native.Mathlib.Omega.{arith}
use lib.ListN.{length, drop, get_or, drop_of_length-le}
use lib.Seq.{drop-cons}
use borrow.Author.Tests.{ltb-false}
use Rattle.std.specs.Prelude.{nat_lt, position, Some, None, unwrap_or}
use Rattle.std.specs.List.{position_or_len}
use Rattle.zone.specs.Alphabet.{first}

module _ (p : ℕ → Bool) (s : List ℕ) (i : ℕ) (left : i + first p (drop i s) ≡ first p s) where
  -- an octet that fails the test: the search goes on behind it
  pub first_miss : i < length s → p (get_or s i 0) ≡ false → (i + 1) + first p (drop (i + 1) s) ≡ first p s
  unfolding first
  first_miss h t = rw (add-one i) (omega (arith, rw (drop-cons s i 0 h, t) at left))

  -- one that passes it is the first
  pub first_hit : i < length s → p (get_or s i 0) ≡ true → i ≡ first p s
  unfolding first
  first_hit h t = sym (add-zero i) ∙ (rw (drop-cons s i 0 h, t) at left)

  -- none is left
  pub first_end : length s ≤ i → i ≡ first p s
  unfolding first
  first_end h = sym (add-zero i) ∙ (rw (drop_of_length-le s h) at left)

-- none passes the test exactly where the search comes to the end
pub first_none : (p : ℕ → Bool) (s : List ℕ) → first p s ≡ length s → (i : ℕ) → i < length s → p (get_or s i 0) ≡ false
unfolding first
first_none p [] e i h = absurd (omega arith)
first_none p (c ∷ s) e i h = go (p c) refl e i h (first_none p s)
  where
    go : (b : Bool) → p c ≡ b → cond b 0 (suc (first p s)) ≡ suc (length s) → (i : ℕ) → i < suc (length s)
        → (first p s ≡ length s → (i : ℕ) → i < length s → p (get_or s i 0) ≡ false) → p (get_or (c ∷ s) i 0) ≡ false
    go true q r i h rest = absurd (omega arith)
    go false q r zero h rest = q
    go false q r (suc i) h rest = rest (omega arith) i (omega arith)

pub none_first : (p : ℕ → Bool) (s : List ℕ) → ((i : ℕ) → i < length s → p (get_or s i 0) ≡ false) → first p s ≡ length s
unfolding first
none_first p [] h = refl
none_first p (c ∷ s) h = rw (h 0 (omega arith), none_first p s (λ i k. h (suc i) (omega arith)))

pub first_le : (p : ℕ → Bool) (s : List ℕ) → first p s ≤ length s
unfolding first
first_le p [] = omega arith
first_le p (c ∷ s) = go (p c) (first_le p s)
  where
    go : (b : Bool) → first p s ≤ length s → cond b 0 (suc (first p s)) ≤ suc (length s)
    go true h = omega arith
    go false h = omega arith

-- the library's `position`, and the length where there is none
prefix_first : (p : ℕ → Bool) (s : List ℕ) → position_or_len p s ≡ first p s
unfolding first
prefix_first p [] = refl
prefix_first p (c ∷ s) = rw (prefix_first p s) (go (p c))
  where
    go : (b : Bool) → cond (not b) (1 + first p s) 0 ≡ cond b 0 (suc (first p s))
    go true = refl
    go false = omega arith

pub position_first : (p : ℕ → Bool) (s : List ℕ) → unwrap_or (position p s) (length s) ≡ first p s
position_first p s = rw (prefix_first p s) (go (nat_lt (first p s) (length s)) refl)
  where
    go : (b : Bool) → nat_lt (first p s) (length s) ≡ b → unwrap_or (cond b (Some (first p s)) None) (length s) ≡ first p s
    go true e = refl
    go false e = omega (arith, ltb-false _ _ e, first_le p s)
