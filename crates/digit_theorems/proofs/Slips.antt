-- One place, and two neighbours. The weights 7, 3 and 1 have inverses modulo 10: 3, 7 and 1. Those of neighbours differ by 4, 2
-- or 6, which are even and have inverses modulo 5.
use Prim.Native.Nat.{ℕ, zero, suc, ◌+◌, ◌*◌, ◌/◌, ◌%◌, ◌<◌}
use mathlib.Core.Path.{◌≡◌, ap, sym, ◌∙◌}
use mathlib.Core.List.{[], ◌∷◌}
use mathlib.Core.Logic.Iff
use mathlib.Core.Logic.{◌↔◌}
use native.Mathlib.Nat.{mod-lt, suc-mod, zero-add, add-mul-mod_self_left, div-add-mod}
use native.Mathlib.Omega.{arith}
use lib.Dec.{lit<}
use lib.ListN.{length, get_or}
use Rattle.digit.specs.Check.{value, weight, sum_from, check_of}
use Rattle.digit_theorems.specs.Slips.{OnePlace, Neighbours}
use Rattle.digit.proofs.Sums.{sum_append}

-- two numbers differ by a multiple of m
unfoldable Apart : ℕ → ℕ → ℕ → Type 0
Apart m u v = (p : ℕ) × (q : ℕ) × (u + m * p ≡ v + m * q)

agree_exactly : (m u v : ℕ) → (u % m ≡ v % m) ↔ Apart m u v
unfolding Apart
agree_exactly m u v = (there, back)
  where
    there : u % m ≡ v % m → Apart m u v
    there e = (v / m, u / m, omega (arith, div-add-mod u m, div-add-mod v m))

    back : Apart m u v → u % m ≡ v % m
    back s = sym (add-mul-mod_self_left u m s.0) ∙ ap (λ n. n % m) s.2 ∙ add-mul-mod_self_left v m s.1

-- what holds of 7 and 3, of 3 and 1, of 1 and 7 holds of the weights of two neighbours anywhere
by_turn : (P : ℕ → ℕ → Type 0) → P 7 3 → P 3 1 → P 1 7 → (place : ℕ) → P (weight place) (weight (suc place))
unfolding weight
by_turn P p q r place = rw (suc-mod place 3) (go (place % 3) (mod-lt place (lit< tt)))
  where
    go : (k : ℕ) → k < 3 → P (get_or (7 ∷ 3 ∷ 1 ∷ []) k 0) (get_or (7 ∷ 3 ∷ 1 ∷ []) (suc k % 3) 0)
    go zero h = p
    go (suc zero) h = q
    go (suc (suc zero)) h = r
    go (suc (suc (suc k))) h = absurd (omega arith)

module _ (x y c d : ℕ) where
  one : (w v : ℕ) → Type 0
  one w v = Apart 10 (x + (c * w + y)) (x + (d * w + y)) ↔ Apart 10 c d

  one_weighed : (place : ℕ) → one (weight place) (weight (suc place))
  unfolding one Apart
  one_weighed = by_turn one
      (λ s. (2 * c + 3 * s.0, 2 * d + 3 * s.1, omega (arith, s.2)), λ s. (7 * s.0, 7 * s.1, omega (arith, s.2)))
      (λ s. (2 * c + 7 * s.0, 2 * d + 7 * s.1, omega (arith, s.2)), λ s. (3 * s.0, 3 * s.1, omega (arith, s.2)))
      (λ s. (s.0, s.1, omega (arith, s.2)), λ s. (s.0, s.1, omega (arith, s.2)))

  two : (w v : ℕ) → Type 0
  two w v = Apart 10 (x + (c * w + (d * v + y))) (x + (d * w + (c * v + y))) ↔ Apart 5 c d

  two_weighed : (place : ℕ) → two (weight place) (weight (suc place))
  unfolding two Apart
  two_weighed = by_turn two
      (λ s. (c + 3 * s.0, d + 3 * s.1, omega (arith, s.2)), λ s. (2 * s.0, 2 * s.1, omega (arith, s.2)))
      (λ s. (s.0, s.1, omega (arith, s.2)), λ s. (s.0, s.1, omega (arith, s.2)))
      (λ s. (c + 2 * s.1, d + 2 * s.0, omega (arith, s.2)), λ s. (3 * s.1, 3 * s.0, omega (arith, s.2)))

pub one_place : OnePlace
unfolding check_of sum_from one
one_place a b c d =
    rw (sum_append 0 a (c ∷ b), sum_append 0 a (d ∷ b), zero-add) (Iff.trans (agree_exactly 10 _ _) (Iff.trans
    (one_weighed (sum_from 0 a) (sum_from (suc (length a)) b) (value c) (value d) (length a))
    (Iff.symm (agree_exactly 10 (value c) (value d)))))

pub neighbours : Neighbours
unfolding check_of sum_from two
neighbours a b c d =
    rw (sum_append 0 a (c ∷ d ∷ b), sum_append 0 a (d ∷ c ∷ b), zero-add) (Iff.trans (agree_exactly 10 _ _) (Iff.trans
    (two_weighed (sum_from 0 a) (sum_from (suc (suc (length a))) b) (value c) (value d) (length a))
    (Iff.symm (agree_exactly 5 (value c) (value d)))))
