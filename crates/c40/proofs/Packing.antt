-- Three values in one number and a number in two octets: each tells the other.
use Prim.Native.Nat.{ℕ, ◌+◌, ◌-◌, ◌*◌, ◌/◌, ◌%◌, ◌≤◌, ◌<◌}
use mathlib.Core.Path.{◌≡◌, ◌∙◌}
use mathlib.Core.Bool.{true}
use mathlib.Core.List.{List, ◌∷◌}
use native.Mathlib.Nat.{mul-add-div, mul-add-mod_self_left, div-eq_of_lt, mod-eq_of_lt, add-zero, div-add-mod, mod-lt}
use native.Mathlib.Nat.{le-div_iff_mul-le, mul-div-le}
use native.Mathlib.Omega.{arith}
use Rattle.c40.specs.Values.{is_value}
use Rattle.c40.specs.Image.{packed, pair}
use Rattle.c40.specs.Reader.{number_of, values_of}
use Rattle.c40.specs.Inner.Left.{Small}
use Rattle.c40.proofs.Coding.{value_range}

-- quotient and remainder of what is made of them
pub split : (d q r : ℕ) → r < d → ((d * q + r) / d ≡ q) × ((d * q + r) % d ≡ r)
split d q r h =
    (mul-add-div (omega arith) q r ∙ rw (div-eq_of_lt h) (add-zero q), mul-add-mod_self_left d q r ∙ mod-eq_of_lt h)

-- the values of a number that was made of values
pub packed_values : (a b c : ℕ) → b ≤ 39 → c ≤ 39 → values_of (packed a b c) ≡ record { first = a; second = b; third = c }
unfolding values_of packed
packed_values a b c hb hc =
    let e : 1600 * a + 40 * b + c + 1 - 1 ≡ 1600 * a + (40 * b + c) = omega arith in
    let whole = split 1600 a (40 * b + c) (omega arith) in
    let rest = split 40 b c (omega arith) in
    rw (e, whole.0, whole.1, rest.0, rest.1)

-- a number made of its own values
pub values_packed : (n : ℕ) → 1 ≤ n → packed (values_of n).first (values_of n).second (values_of n).third ≡ n
unfolding values_of packed
values_packed n h = omega (arith, div-add-mod (n - 1) 1600, div-add-mod ((n - 1) % 1600) 40)

-- the number of a number's octets
pub pair_number : (n : ℕ) → number_of (n / 256) (n % 256) ≡ n
unfolding number_of
pair_number n = div-add-mod n 256

-- the octets of their number
pub number_pair : (x y : ℕ) (s : List ℕ) → y < 256 → pair (number_of x y) s ≡ x ∷ y ∷ s
unfolding number_of pair
number_pair x y s h = let both = split 256 x y h in rw (both.0, both.1)

-- FE is above every number made of values
pub first_above : (y : ℕ) → 40 ≤ (values_of (number_of 0xFE y)).first
unfolding values_of number_of
first_above y = (le-div_iff_mul-le {k = 1600} {x = 40} {y = 256 * 0xFE + y - 1} (omega arith)).1 (omega arith)

-- a number without a first value is none
pub some_number : (n : ℕ) → is_value (values_of n).first ≡ true → 1 ≤ n
unfolding values_of
some_number n e = omega (arith, (value_range ((n - 1) / 1600) e).0, mul-div-le (n - 1) 1600)

-- the values of two octets are small
pub small_values : (n : ℕ) → n ≤ 65535 → Small (record { first = n / 1600; second = n % 1600 / 40; third = n % 1600 % 40 })
small_values n h =
    let low : n % 1600 < 1600 = mod-lt n (omega arith) in
    let last : n % 1600 % 40 < 40 = mod-lt (n % 1600) (omega arith) in
    record {
      first = omega (arith, mul-div-le n 1600);
      second = omega (arith, mul-div-le (n % 1600) 40);
      third = omega arith;
    }
