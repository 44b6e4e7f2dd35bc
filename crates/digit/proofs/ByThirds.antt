-- The laws of a field by thirds: that weighed it is the weighted sum, the steps of its loops, and counts worked out before.
use Prim.Native.Nat.{ℕ, zero, suc, ◌+◌, ◌%◌, ◌≤◌, ◌<◌}
use mathlib.Core.Path.{◌≡◌, refl}
use mathlib.Core.Bool.{Bool, true, false}
use mathlib.Core.List.{List, [], ◌∷◌}
use native.Mathlib.Nat.{add-mul, add_assoc, zero-add, add-zero}
use native.Mathlib.Numerals.{add-one}
use native.Mathlib.Omega.{arith}
use borrow.Author.Tests.{ltb-true, ltb-false}
use lib.Dec.{ltb}
use lib.ListN.{length, take, drop, get_or, length-drop, drop_of_length-le, get_or-eq_default}
use lib.Seq.{drop-cons, get_or-drop, take-nil}
use Rattle.zone.specs.Alphabet.{is_digit, is_letter}
use Rattle.digit.specs.Check.{value, weight, sum_from, check_of, digit_of}
use Rattle.digit.specs.Inner.Thirds.{thirds_by, thirds_of, thirds_in, Counts, weighed, as_digit}
use Rattle.digit.specs.declared.thirds.Thirds.{Thirds}

weight_again : (place : ℕ) → weight (suc place + 2) ≡ weight place
unfolding weight
weight_again place =
    let e : (suc place + 2) % 3 ≡ place % 3 = omega arith in
    rw e

pub weighed_sum : (place : ℕ) (s : List ℕ) → weighed (thirds_of s) place ≡ sum_from place s
unfolding weighed thirds_by sum_from
weighed_sum place [] = omega arith
weighed_sum place (c ∷ s) =
    let t = thirds_of s in
    let two : suc place + 1 ≡ place + 2 = omega arith in
    rw (← weighed_sum (suc place) s, weight_again place, two, add-one place, add-mul (value c) t.third (weight place))
    (omega arith)

-- the digit of a field is that of its weighed thirds
pub thirds_digit : (s : List ℕ) → as_digit (weighed (thirds_of s) 0) ≡ digit_of s
unfolding as_digit digit_of check_of
thirds_digit s = rw (weighed_sum 0 s)

-- The loops, by what a character counts: what those passed count, and those that are left.
module _ (count : ℕ → ℕ) where
  unfoldable pub and_left : (first second third : ℕ) → List ℕ → Thirds
  and_left first second third s = record {
    first = first + (thirds_by count s).first;
    second = second + (thirds_by count s).second;
    third = third + (thirds_by count s).third;
  }

  pub left_none : (s : List ℕ) → and_left 0 0 0 (drop 0 s) ≡ thirds_by count s
  unfolding and_left
  left_none s =
      let t = thirds_by count s in
      rw (zero-add t.first, zero-add t.second, zero-add t.third)

  -- three characters more
  pub left_three : (a b c : ℕ) (s : List ℕ) (i : ℕ) → i + 2 < length s
      → and_left (a + count (get_or s i 0)) (b + count (get_or s (i + 1) 0)) (c + count (get_or s (i + 2) 0)) (drop (i + 3) s)
      ≡ and_left a b c (drop i s)
  unfolding and_left thirds_by
  left_three a b c s i h =
      let one : i + 1 ≡ suc i = omega arith in
      let two : i + 2 ≡ suc (suc i) = omega arith in
      let three : i + 3 ≡ suc (suc (suc i)) = omega arith in
      rw (
        one,
        two,
        three,
        drop-cons s i 0 (omega arith),
        drop-cons s (suc i) 0 (omega arith),
        drop-cons s (suc (suc i)) 0 (omega arith),
      )
      (simp add_assoc)

  module _ (none : count 0 ≡ 0) where
    thirds_end : (s : List ℕ) → length s ≤ 2
        → thirds_by count s ≡ record { first = count (get_or s 0 0); second = count (get_or s 1 0); third = 0 }
    unfolding thirds_by
    thirds_end [] h = rw none
    thirds_end (a ∷ []) h = rw (none, add-zero (count a))
    thirds_end (a ∷ b ∷ []) h = rw (add-zero (count a), add-zero (count b))
    thirds_end (a ∷ b ∷ c ∷ s) h = absurd (omega arith)

    -- no more than two are left
    pub left_end : (a b c : ℕ) (s : List ℕ) (i : ℕ) → length s ≤ i + 2
        → record { first = a + count (get_or s i 0); second = b + count (get_or s (i + 1) 0); third = c }
        ≡ and_left a b c (drop i s)
    unfolding and_left
    left_end a b c s i h =
        let few : length (drop i s) ≤ 2 = rw length-drop (omega arith) in
        rw (thirds_end (drop i s) few, get_or-drop i s 0 0, get_or-drop i s 1 0, add-zero i, add-zero c)

    -- one character more, also past the end
    thirds_next : (s : List ℕ) (n i : ℕ) → let t = thirds_by count (take n (drop (suc i) s)) in
        thirds_by count (take (suc n) (drop i s))
        ≡ record { first = count (get_or s i 0) + t.third; second = t.first; third = t.second }
    unfolding thirds_by
    thirds_next s n i = go (ltb i (length s)) refl
      where
        go : (b : Bool) → ltb i (length s) ≡ b → let t = thirds_by count (take n (drop (suc i) s)) in
            thirds_by count (take (suc n) (drop i s))
            ≡ record { first = count (get_or s i 0) + t.third; second = t.first; third = t.second }
        go true e = rw (drop-cons s i 0 (ltb-true i (length s) e))
        go false e =
            let past = ltb-false i (length s) e in
            let further : length s ≤ suc i = omega arith in
            rw (drop_of_length-le s past, drop_of_length-le s further, take-nil n, get_or-eq_default s 0 past, none)

-- what was worked out before counts the same
pub same_thirds : (t counts : List ℕ) → Counts t counts → (n at : ℕ) → at + n ≤ 90
    → thirds_in (take n (drop at counts)) ≡ thirds_of (take n (drop at t))
unfolding thirds_by value is_digit is_letter
same_thirds t counts e zero at h = refl
same_thirds t counts e (suc n) at h =
    let rest = same_thirds t counts e n (suc at) (omega arith) in
    rw (thirds_next (λ n. n) refl counts n at, thirds_next value refl t n at, rest, e at (omega arith))
