-- The laws of `bits_at`: what it says is below its power of two, bits one behind the other, a field of some bits, and octets.
use Prim.Native.Nat.{ℕ, zero, suc, ◌+◌, ◌-◌, ◌*◌, ◌/◌, ◌%◌, ◌^◌, ◌<◌}
use mathlib.Core.Path.{◌≡◌, refl, ap, ◌∙◌}
use mathlib.Core.List.{List, [], ◌∷◌}
use native.Mathlib.Nat.{mod-lt, mod-eq_of_lt, zero-add, add-mul, mul_assoc, pow-succ'}
use native.Mathlib.Omega.{arith}
use lib.Arith.{digits_lt}
use lib.Dec.{lit<}
use lib.ListN.{drop, get_or}
use lib.Pow.{pow-add, high, low}
use Rattle.cells.specs.Bits.{bit, bits_at}
use Rattle.cells.proofs.BitsOfOctets.{bits_of, worth, number_place_lem, worth_put, drop_bits}

-- w bits say no more than that
pub bits_below : (s : List ℕ) (k w : ℕ) → bits_at s k w < 2 ^ w
unfolding bits_at bit
bits_below s k zero = lit< tt
bits_below s k (suc w) =
    rw (pow-succ' 2 w) (digits_lt (mod-lt (get_or s (k / 8) 0 / 2 ^ (7 - k % 8)) (lit< tt)) (bits_below s (suc k) w))

-- bits one behind the other
pub bits_joined : (s : List ℕ) (k a b : ℕ) → bits_at s k (a + b) ≡ bits_at s k a * 2 ^ b + bits_at s (k + a) b
unfolding bits_at
bits_joined s k zero b =
    let e : k + 0 ≡ k = omega arith in
    rw (zero-add b, e) (omega arith)
bits_joined s k (suc a) b =
    let e : suc a + b ≡ suc (a + b) = omega arith in
    let f : suc k + a ≡ k + suc a = omega arith in
    rw (
      e,
      bits_joined s (suc k) a b,
      f,
      pow-add 2 a b,
      add-mul (bit s k * 2 ^ a) (bits_at s (suc k) a) (2 ^ b),
      mul_assoc (bit s k) (2 ^ a) (2 ^ b),
    ) (omega arith)

-- w bits of some, with r above them and m below
pub bits_within_lem : (s : List ℕ) (k r w m : ℕ) → bits_at s k (r + w + m) / 2 ^ m % 2 ^ w ≡ bits_at s (k + r) w
bits_within_lem s k r w m =
    rw (
      bits_joined s k (r + w) m,
      high (bits_at s k (r + w)) m (bits_below s (k + (r + w)) m),
      bits_joined s k r w,
      low (bits_at s k r) w (bits_below s (k + r) w),
    )

-- an octet
first_octet_lem : (s : List ℕ) (j : ℕ) → get_or s j 0 < 256 → worth 8 (bits_of (drop j s)) ≡ get_or s j 0
unfolding bits_of worth
first_octet_lem [] zero h = refl
first_octet_lem [] (suc j) h = refl
first_octet_lem (c ∷ s) zero h = worth_put 8 c (bits_of s) ∙ mod-eq_of_lt h
first_octet_lem (c ∷ s) (suc j) h = first_octet_lem s j h

pub octet_read : (s : List ℕ) (j : ℕ) → get_or s j 0 < 256 → bits_at s (8 * j) 8 ≡ get_or s j 0
octet_read s j h = number_place_lem s 8 (8 * j) ∙ ap (worth 8) (drop_bits j s) ∙ first_octet_lem s j h

-- one octet more
pub octet_more : (s : List ℕ) (j w : ℕ) → get_or s (j + w) 0 < 256
    → bits_at s (8 * j) (8 * w + 8) ≡ bits_at s (8 * j) (8 * w) * 256 + get_or s (j + w) 0
octet_more s j w h =
    let e : 8 * j + 8 * w ≡ 8 * (j + w) = omega arith in
    rw (bits_joined s (8 * j) (8 * w) 8, e, octet_read s (j + w) h)
