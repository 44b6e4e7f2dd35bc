-- How many of a list are left when others are taken: so a list without a repeat is no longer than the one that it is taken from.
use Prim.Native.Nat.{ℕ, zero, suc, ◌+◌, ◌≤◌, ◌<◌}
use mathlib.Core.Path.{◌≡◌, refl, sym}
use mathlib.Core.Bool.{Bool, true, false, cond, ◌||◌, false≢true}
use mathlib.Core.List.{List, [], ◌∷◌}
use native.Mathlib.Omega.{arith}
use borrow.Author.Tests.{eq-eqb, ne_eqb, eqb-true, eqb-false}
use lib.Dec.{eqb}
use Rattle.lent.specs.Octets.{stands}

-- how many of a list do not stand among those that are taken
unfoldable pub left : List ℕ → List ℕ → ℕ
left [] taken = 0
left (x ∷ xs) taken = cond (stands x taken) (left xs taken) (suc (left xs taken))

-- with one more taken no more are left
left_no_more : (xs taken : List ℕ) (c : ℕ) → left xs (c ∷ taken) ≤ left xs taken
unfolding left stands
left_no_more [] taken c = omega arith
left_no_more (x ∷ xs) taken c = go (eqb x c) (stands x taken) (left_no_more xs taken c)
  where
    go : (a b : Bool) → left xs (c ∷ taken) ≤ left xs taken
        → cond (a || b) (left xs (c ∷ taken)) (suc (left xs (c ∷ taken))) ≤ cond b (left xs taken) (suc (left xs taken))
    go true true h = h
    go true false h = omega arith
    go false true h = h
    go false false h = omega arith

-- and fewer, where it is one of the list and was not taken before
pub left_fewer : (xs taken : List ℕ) (c : ℕ) → stands c xs ≡ true → stands c taken ≡ false → left xs (c ∷ taken) < left xs taken
unfolding left stands
left_fewer [] taken c e f = absurd (false≢true e)
left_fewer (x ∷ xs) taken c e f = go (eqb c x) refl e (λ h. left_fewer xs taken c h f)
  where
    later : (b : Bool) → left xs (c ∷ taken) < left xs taken
        → cond b (left xs (c ∷ taken)) (suc (left xs (c ∷ taken))) < cond b (left xs taken) (suc (left xs taken))
    later true h = h
    later false h = omega arith

    go : (a : Bool) → eqb c x ≡ a → a || stands c xs ≡ true
        → (stands c xs ≡ true → left xs (c ∷ taken) < left xs taken)
        → cond (eqb x c || stands x taken) (left xs (c ∷ taken)) (suc (left xs (c ∷ taken)))
        < cond (stands x taken) (left xs taken) (suc (left xs taken))
    go true p h rest = rw (← eqb-true c x p, eq-eqb c c refl, f) (omega (arith, left_no_more xs taken c))
    go false p h rest = rw (ne_eqb x c (λ z. eqb-false c x p (sym z))) (later (stands x taken) (rest h))

-- so many numbers, one after the other
unfoldable pub count_from : ℕ → ℕ → List ℕ
count_from zero at = []
count_from (suc n) at = at ∷ count_from n (suc at)

pub stands_counted : (n at c : ℕ) → at ≤ c → c < at + n → stands c (count_from n at) ≡ true
unfolding count_from stands
stands_counted zero at c h k = absurd (omega arith)
stands_counted (suc n) at c h k = go (eqb c at) refl (λ l. stands_counted n (suc at) c l (omega arith))
  where
    go : (a : Bool) → eqb c at ≡ a → (suc at ≤ c → stands c (count_from n (suc at)) ≡ true)
        → a || stands c (count_from n (suc at)) ≡ true
    go true p rest = refl
    go false p rest = let q = eqb-false c at p in rest (omega (arith, q))
