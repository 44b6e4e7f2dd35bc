-- A reading, pair by pair: what the reader takes, and that it takes nothing else.
use Prim.Native.Nat.{ℕ}
use mathlib.Core.Path.{◌≡◌, refl}
use mathlib.Core.Bool.{Bool, true, false}
use mathlib.Core.List.{List, [], ◌∷◌, ◌++◌}
use native.Mathlib.Omega.{arith}
use Rattle.c40.specs.Reader.{Reading, characters, no_image, number_of, values_of, is_three, three, is_two, two, is_one, one}
use Rattle.c40.specs.Reader.{before, last_pair, read_c40}

-- pairs of three, and then none, one of two or one of one
pub data Pairs : List ℕ → List ℕ → Type 0 where
  none : Pairs [] []
  of_one : (x y : ℕ) → is_three (values_of (number_of x y)) ≡ false → is_two (values_of (number_of x y)) ≡ false
      → is_one x y ≡ true
      → Pairs (x ∷ y ∷ []) (one y)
  of_two : (x y : ℕ) → is_three (values_of (number_of x y)) ≡ false → is_two (values_of (number_of x y)) ≡ true
      → Pairs (x ∷ y ∷ []) (two (values_of (number_of x y)))
  of_three : (x y : ℕ) {s t : List ℕ} → is_three (values_of (number_of x y)) ≡ true → Pairs s t
      → Pairs (x ∷ y ∷ s) (three (values_of (number_of x y)) ++ t)

pub same_text : (t u : List ℕ) → characters t ≡ characters u → t ≡ u
same_text t u e = cc

pub no_text : (t : List ℕ) → no_image ≡ characters t → ⊥
no_text t e = let z : ◌≡◌ {A = ℕ} 0 1 = cc in omega arith

-- what is read is read so
pub pairs_read : {s t : List ℕ} → Pairs s t → read_c40 s ≡ characters t
unfolding read_c40 last_pair before
pairs_read none = refl
pairs_read (of_one x y p q r) = rw (p, q, r)
pairs_read (of_two x y p q) = rw (p, q)
pairs_read (of_three x y p more) = rw (p, pairs_read more)

last_pairs : (x y : ℕ) (s t : List ℕ) → is_three (values_of (number_of x y)) ≡ false → last_pair x y s ≡ characters t
    → Pairs (x ∷ y ∷ s) t
unfolding last_pair
last_pairs x y (z ∷ s) t p e = absurd (no_text t e)
last_pairs x y [] t p e = go (is_two (values_of (number_of x y))) refl (is_one x y) refl
  where
    go : (a : Bool) → is_two (values_of (number_of x y)) ≡ a → (b : Bool) → is_one x y ≡ b → Pairs (x ∷ y ∷ []) t
    go true q b r = rw (← same_text (two (values_of (number_of x y))) t (rw q at e)) (of_two x y p q)
    go false q true r = rw (← same_text (one y) t (rw (q, r) at e)) (of_one x y p q r)
    go false q false r = absurd (no_text t (rw (q, r) at e))

pub read_pairs : (s t : List ℕ) → read_c40 s ≡ characters t → Pairs s t
unfolding read_c40 before
read_pairs [] t e = rw (← same_text [] t e) none
read_pairs (x ∷ []) t e = absurd (no_text t e)
read_pairs (x ∷ y ∷ s) t e = go (is_three (values_of (number_of x y))) refl (read_c40 s) refl (read_pairs s)
  where
    go : (a : Bool) → is_three (values_of (number_of x y)) ≡ a → (r : Reading) → read_c40 s ≡ r
        → ((u : List ℕ) → read_c40 s ≡ characters u → Pairs s u) → Pairs (x ∷ y ∷ s) t
    go true p (characters u) q more =
        rw (← same_text (three (values_of (number_of x y)) ++ u) t (rw (p, q) at e)) (of_three x y p (more u q))
    go true p no_image q more = absurd (no_text t (rw (p, q) at e))
    go false p r q more = last_pairs x y s t p (rw p at e)
