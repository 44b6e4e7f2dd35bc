-- The pairs listed so far and the undetected ones of those that are left make the list.
use Prim.Native.Nat.{ℕ, suc, ◌+◌, ◌-◌, ◌≤◌, ◌<◌}
use mathlib.Core.Path.{◌≡◌}
use mathlib.Core.Bool.{true, false}
use mathlib.Core.List.{List, [], ◌∷◌, ◌++◌, map, map-append, append-nil}
use native.Mathlib.Numerals.{add-one}
use native.Mathlib.Omega.{arith}
use lib.ListN.{length, take, set}
use lib.Seq.{take-suc-set, append_snoc}
use Rattle.digit_theorems.specs.Pairs.{Pair, pair_at, is_undetected, undetected_from}

unfoldable pub listing : (modulus : ℕ) (numbers : List ℕ) (count n : ℕ) → List Pair
listing modulus numbers count n = map pair_at (take count numbers) ++ undetected_from modulus (1369 - n) n

module _ (modulus : ℕ) (numbers : List ℕ) (count n : ℕ) where
  -- an undetected pair is listed
  pub one_more_lem : n < 1369 → count < length numbers → is_undetected modulus (pair_at n) ≡ true
      → listing modulus (set numbers count n) (count + 1) (n + 1) ≡ listing modulus numbers count n
  unfolding listing undetected_from
  one_more_lem h k u =
      let left : 1369 - n ≡ suc (1369 - suc n) = omega arith in
      rw (
        add-one count,
        add-one n,
        left,
        u,
        take-suc-set numbers count n k,
        map-append pair_at (take count numbers) (n ∷ []),
        append_snoc,
      )

  -- another is passed over
  pub passed_over : n < 1369 → is_undetected modulus (pair_at n) ≡ false
      → listing modulus numbers count (n + 1) ≡ listing modulus numbers count n
  unfolding listing undetected_from
  passed_over h u =
      let left : 1369 - n ≡ suc (1369 - suc n) = omega arith in
      rw (add-one n, left, u)

  -- none is left
  pub all_listed : 1369 ≤ n → listing modulus numbers count n ≡ map pair_at (take count numbers)
  unfolding listing undetected_from
  all_listed h =
      let left : 1369 - n ≡ 0 = omega arith in
      rw (left, append-nil)
