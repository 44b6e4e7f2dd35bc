-- The computed lists of pairs: complete, rising, and each pair once.
use Prim.Native.Nat.{ℕ, zero, suc, ◌+◌, ◌*◌, ◌/◌, ◌%◌, ◌≤◌, ◌<◌}
use mathlib.Core.Path.{◌≡◌, refl, ap, sym, ◌∙◌}
use mathlib.Core.Bool.{Bool, true, false, cond, false≢true}
use mathlib.Core.List.{List, [], ◌∷◌}
use mathlib.Core.List.Memᴰ
use mathlib.Core.Logic.{◌⊎◌, inl, inr, ⊎_elim}
use native.Mathlib.Nat.{eq-or-lt_of_le}
use native.Mathlib.Omega.{arith}
use borrow.Author.Tests.{eqb-true, eq-eqb, ltb-true, lt-ltb}
use lib.Dec.{ltb}
use Rattle.lent.proofs.Bools.{and_both}
use Rattle.digit_theorems.specs.Pairs.{Pair, Agree, pair_at, is_undetected, undetected_from, undetected, On}
use Rattle.digit_theorems.specs.Pairs.{Before, Rising, Once, Complete}

before_at : (n i : ℕ) → n < i → Before (pair_at n) (pair_at i)
unfolding pair_at
before_at n i h = go (eq-or-lt_of_le (omega arith))
  where
    go : (n / 37 ≡ i / 37) ⊎ (n / 37 < i / 37) → (n / 37 < i / 37) ⊎ ((n / 37 ≡ i / 37) × (n % 37 < i % 37))
    go (inl e) = inr (e, omega arith)
    go (inr l) = inl l

module _ (m : ℕ) where
  -- an undetected pair, from the a-th on, before the b-th
  Found : Pair → (a b : ℕ) → Type 0
  Found p a b = (i : ℕ) × (a ≤ i) × (i < b) × (p ≡ pair_at i) × (is_undetected m p ≡ true)

  -- what is on the list is one of those that were gone through
  found : (k n : ℕ) (p : Pair) → On p (undetected_from m k n) → Found p n (n + k)
  unfolding undetected_from Found
  found zero n p o = absurd (Memᴰ.not-nil o)
  found (suc k) n p o = go (is_undetected m (pair_at n)) refl (found k (suc n) p) o
    where
      rest : List Pair
      rest = undetected_from m k (suc n)

      later : Found p (suc n) (suc n + k) → Found p n (n + suc k)
      later f = (f.0, omega (arith, f.1), omega (arith, f.2), f.3, f.4)

      go : (b : Bool) → is_undetected m (pair_at n) ≡ b → (On p rest → Found p (suc n) (suc n + k))
          → On p (cond b (pair_at n ∷ rest) rest) → Found p n (n + suc k)
      go true u f o =
          ⊎_elim (λ e. (n, omega arith, omega arith, e, rw e u)) (λ o. later (f o)) (Memᴰ.cases_cons o)
      go false u f o = later (f o)

  -- and the other way
  put_on : (k n i : ℕ) → n ≤ i → i < n + k → is_undetected m (pair_at i) ≡ true → On (pair_at i) (undetected_from m k n)
  unfolding undetected_from
  put_on zero n i l h u = absurd (omega arith)
  put_on (suc k) n i l h u = go (eq-or-lt_of_le l) (is_undetected m (pair_at n)) refl (put_on k (suc n) i)
    where
      rest : List Pair
      rest = undetected_from m k (suc n)

      go : (n ≡ i) ⊎ (n < i) → (b : Bool) → is_undetected m (pair_at n) ≡ b
          → (suc n ≤ i → i < suc n + k → is_undetected m (pair_at i) ≡ true → On (pair_at i) rest)
          → On (pair_at i) (cond b (pair_at n ∷ rest) rest)
      go (inl s) true e f = Memᴰ.head (ap pair_at (sym s))
      go (inl s) false e f = absurd (false≢true (sym e ∙ ap (λ j. is_undetected m (pair_at j)) s ∙ u))
      go (inr l) true e f = Memᴰ.tail (f (omega arith) (omega arith) u)
      go (inr l) false e f = f (omega arith) (omega arith) u

  rising_from : (k n : ℕ) → Rising (undetected_from m k n)
  unfolding undetected_from Rising Found
  rising_from zero n = tt
  rising_from (suc k) n = go (is_undetected m (pair_at n)) (rising_from k (suc n))
    where
      rest : List Pair
      rest = undetected_from m k (suc n)

      later : (q : Pair) → On q rest → Before (pair_at n) q
      later q o = let f = found k (suc n) q o in rw f.3 (before_at n f.0 (omega (arith, f.1)))

      go : (b : Bool) → Rising rest → Rising (cond b (pair_at n ∷ rest) rest)
      go true r = (later, r)
      go false r = r

pub rising : (modulus : ℕ) → Rising (undetected modulus)
unfolding undetected
rising modulus = rising_from modulus (37 * 37) 0

-- a list that rises has no pair twice
rising_once : (ps : List Pair) → Rising ps → Once ps
unfolding Rising Once
rising_once [] r = tt
rising_once (p ∷ ps) r = (λ o. go (r.0 p o), rising_once ps r.1)
  where
    go : Before p p → ⊥
    go (inl h) = omega arith
    go (inr h) = omega (arith, h.1)

pub once : (modulus : ℕ) → Once (undetected modulus)
once modulus = rising_once (undetected modulus) (rising modulus)

pub complete : Complete
unfolding undetected is_undetected pair_at Found
complete m p = (there, back)
  where
    there : On p (undetected m) → (p.lower < p.upper) × (p.upper < 37) × Agree m p
    there o =
        let f = found m (37 * 37) 0 p o in
        let both = and_both (ltb p.lower p.upper) _ f.4 in
        let upper = ap (λ q. q.upper) f.3 in
        (ltb-true p.lower p.upper both.0, omega arith, eqb-true _ _ both.1)

    back : (p.lower < p.upper) × (p.upper < 37) × Agree m p → On p (undetected m)
    back h =
        let n = 37 * p.lower + p.upper in
        let lower : n / 37 ≡ p.lower = omega (arith, h.0, h.1) in
        let upper : n % 37 ≡ p.upper = omega (arith, h.0, h.1) in
        let same : pair_at n ≡ p = λ i. record { lower = lower i; upper = upper i } in
        rw same at (put_on m (37 * 37) 0 n (omega arith) (omega (arith, h.0, h.1))
        (rw (lower, upper, lt-ltb p.lower p.upper h.0) (eq-eqb _ _ h.2)))
