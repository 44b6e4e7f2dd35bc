-- Ranges that begin alike say the same, and where no bit is set every number is 0.
use Prim.Native.Nat.{ℕ, zero, suc, ◌+◌, ◌*◌, ◌/◌, ◌^◌, ◌≤◌, ◌<◌}
use mathlib.Core.Path.{◌≡◌, refl, ap, sym, ◌∙◌}
use mathlib.Core.List.{List, ◌++◌}
use native.Mathlib.Nat.{add-zero, suc-mul}
use native.Mathlib.Omega.{arith}
use lib.ListN.{take, get_or, replicate}
use lib.Pow.{pow_pos}
use lib.Seq.{get_or-take}
use Rattle.cells.specs.Bits.{bit, bits_at}
use Rattle.cells.specs.Cells.{numbers_at}

-- ---- ranges that begin alike

module _ (a b : List ℕ) (q : ℕ) (e : take q a ≡ take q b) where
  pub bit_alike : (k : ℕ) → k < 8 * q → bit a k ≡ bit b k
  unfolding bit
  bit_alike k h =
      let l : k / 8 < q = omega arith in
      let same : get_or a (k / 8) 0 ≡ get_or b (k / 8) 0 =
      sym (get_or-take q a (k / 8) 0 l) ∙ ap (λ (x : List ℕ). get_or x (k / 8) 0) e ∙ get_or-take q b (k / 8) 0 l in
      rw same

  pub bits_alike : (k w : ℕ) → k + w ≤ 8 * q → bits_at a k w ≡ bits_at b k w
  unfolding bits_at
  bits_alike k zero h = refl
  bits_alike k (suc w) h = rw (bit_alike k (omega arith), bits_alike (suc k) w (omega arith))

  pub numbers_alike : (k n w : ℕ) → k + w * n ≤ 8 * q → numbers_at a k n w ≡ numbers_at b k n w
  unfolding numbers_at
  numbers_alike k zero w h = refl
  numbers_alike k (suc n) w h = rw (bits_alike k w (omega arith), numbers_alike (k + w) n w (omega arith))

-- ---- where no bit is set

-- where a number is 0, each of its bits is
factor_none : (x p : ℕ) → 0 < p → x * p ≡ 0 → x ≡ 0
factor_none zero p h e = refl
factor_none (suc x) p h e = absurd (omega (arith, suc-mul x p))

pub none_each : (s : List ℕ) (w k j : ℕ) → bits_at s k w ≡ 0 → j < w → bit s (k + j) ≡ 0
unfolding bits_at
none_each s zero k j e h = absurd (omega arith)
none_each s (suc w) k zero e h = rw (add-zero k) (factor_none (bit s k) (2 ^ w) (pow_pos w) (omega arith))
none_each s (suc w) k (suc j) e h =
    let p : k + suc j ≡ suc k + j = omega arith in
    rw p (none_each s w (suc k) j (omega arith) (omega arith))

module _ (a : List ℕ) where
  -- none from a place on
  abbrev pub Unset : ℕ → Type 0
  Unset k = (j : ℕ) → k ≤ j → bit a j ≡ 0

  bits_none : (k w : ℕ) → Unset k → bits_at a k w ≡ 0
  unfolding bits_at
  bits_none k zero f = refl
  bits_none k (suc w) f = rw (f k (omega arith), bits_none (suc k) w (λ (j : ℕ) h. f j (omega arith))) (omega arith)

  pub numbers_none : (k n w : ℕ) → Unset k → numbers_at a k n w ≡ replicate n 0
  unfolding numbers_at
  numbers_none k zero w f = refl
  numbers_none k (suc n) w f = rw (bits_none k w f, numbers_none (k + w) n w (λ (j : ℕ) h. f j (omega arith)))

-- ---- numbers one behind the other

pub numbers_parted : (s : List ℕ) (k m n w : ℕ) → numbers_at s k (m + n) w ≡ numbers_at s k m w ++ numbers_at s (k + w * m) n w
unfolding numbers_at
numbers_parted s k zero n w =
    let e : 0 + n ≡ n = omega arith in
    let f : k + w * 0 ≡ k = omega arith in
    rw (e, f)
numbers_parted s k (suc m) n w =
    let e : suc m + n ≡ suc (m + n) = omega arith in
    let f : k + w + w * m ≡ k + w * suc m = omega arith in
    rw (e, numbers_parted s (k + w) m n w, f)
