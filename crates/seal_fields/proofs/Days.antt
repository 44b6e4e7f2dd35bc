-- A day and its three octets tell each other.
use Prim.Native.Nat.{ℕ, ◌+◌, ◌*◌, ◌/◌, ◌%◌, ◌≤◌, ◌<◌}
use mathlib.Core.Path.{◌≡◌, refl, ap, ◌∙◌}
use mathlib.Core.Bool.{Bool, true, false, cond, ◌&&◌, false≢true}
use mathlib.Core.List.{List, [], ◌∷◌}
use native.Mathlib.Nat.{div-add-mod', div-div-eq-div-mul, div-lt_iff_lt-mul, mod-eq_of_lt, mod-mod}
use native.Mathlib.Omega.{arith}
use borrow.Author.Tests.{leb-true, eqb-true}
use lib.Dec.{eqb, leb}
use lib.ListN.{length, get_or}
use Rattle.lent.proofs.Bools.{and_both}
use Rattle.zone.specs.Octets.{AreOctets}
use Rattle.zone.proofs.Octets.{octet_below}
use Rattle.field.specs.Date.{is_short}
use Rattle.c40.specs.Inner.Imaged.{reduced}
use Rattle.c40.proofs.Packing.{split}
use Rattle.seal_fields.specs.declared.day.Day.{Day}
use Rattle.seal_fields.specs.Day.{is_leap, days_in, is_day, day_of, number_in, day_number, three_octets, day_octets}
use Rattle.seal_fields.proofs.Short.{of_three_lem}

-- ---- bounds

days_most : (year month : ℕ) → days_in year month ≤ 31
unfolding days_in
days_most year month = go (eqb month 2) (is_leap year) (is_short month)
  where
    go : (a b c : Bool) → cond a (cond b 29 28) (cond c 30 31) ≤ 31
    go true true c = omega arith
    go true false c = omega arith
    go false b true = omega arith
    go false b false = omega arith

day_bounds : (d : Day) → is_day d ≡ true → (d.year < 10000) × (d.day < 100)
unfolding is_day
day_bounds d e =
    let year = leb 1 d.year && leb d.year 9999 in
    let month = leb 1 d.month && leb d.month 12 in
    let day = leb 1 d.day && leb d.day (days_in d.year d.month) in
    let p = and_both year (month && day) e in
    let q = and_both (leb 1 d.year) (leb d.year 9999) p.0 in
    let r = and_both (leb 1 d.day) (leb d.day (days_in d.year d.month)) (and_both month day p.1).1 in (
      omega (arith, leb-true d.year 9999 q.1),
      omega (arith, leb-true d.day (days_in d.year d.month) r.1, days_most d.year d.month),
    )

month_most : (d : Day) → is_day d ≡ true → d.month ≤ 12
unfolding is_day
month_most d e =
    let year = leb 1 d.year && leb d.year 9999 in
    let month = leb 1 d.month && leb d.month 12 in
    let day = leb 1 d.day && leb d.day (days_in d.year d.month) in
    let p = and_both month day (and_both year (month && day) e).1 in
    leb-true d.month 12 (and_both (leb 1 d.month) (leb d.month 12) p.0).1

-- the number of a day has three octets, so that none of them is reduced
pub day_octets_lem : (d : Day) → is_day d ≡ true → reduced (day_octets d) ≡ day_octets d
unfolding reduced day_octets three_octets day_number
day_octets_lem d e =
    let most = day_bounds d e in
    let n = d.month * 1000000 + d.day * 10000 + d.year in
    let small : n < 65536 * 256 = omega (arith, most.0, most.1, month_most d e) in
    let first : n / 65536 < 256 = (div-lt_iff_lt-mul {k = 65536} {x = n} {y = 256} (omega arith)).1 (omega arith) in
    rw (mod-eq_of_lt first, mod-mod, mod-mod)

-- ---- from a day to its octets and back

three_number : (n : ℕ) → number_in (three_octets n) ≡ n
unfolding number_in three_octets
three_number n = omega (arith, div-add-mod' n 256, div-add-mod' (n / 256) 256, div-div-eq-div-mul n 256 256)

number_day : (d : Day) → is_day d ≡ true → day_of (day_number d) ≡ d
unfolding day_of day_number
number_day d e =
    let most = day_bounds d e in
    let n = d.month * 1000000 + d.day * 10000 + d.year in
    let same : n ≡ 10000 * (100 * d.month + d.day) + d.year = omega arith in
    let low = split 10000 (100 * d.month + d.day) d.year most.0 in
    let high = split 100 d.month d.day most.1 in
    let ten : n / 10000 ≡ 100 * d.month + d.day = ap (λ (m : ℕ). m / 10000) same ∙ low.0 in
    let year : n % 10000 ≡ d.year = ap (λ (m : ℕ). m % 10000) same ∙ low.1 in
    let month : n / 1000000 ≡ d.month = div_by_parts n ∙ ap (λ (m : ℕ). m / 100) ten ∙ high.0 in
    let day : n / 10000 % 100 ≡ d.day = ap (λ (m : ℕ). m % 100) ten ∙ high.1 in
    λ i. record { year = year i; month = month i; day = day i }
  where
    div_by_parts : (n : ℕ) → n / 1000000 ≡ n / 10000 / 100
    div_by_parts n = omega (arith, div-div-eq-div-mul n 10000 100)

pub day_read : (d : Day) → is_day d ≡ true → day_of (number_in (day_octets d)) ≡ d
unfolding day_octets
day_read d e = ap day_of (three_number (day_number d)) ∙ number_day d e

-- ---- from octets to their day and back

day_number_lem : (n : ℕ) → day_number (day_of n) ≡ n
unfolding day_number day_of
day_number_lem n = omega (arith, div-add-mod' n 10000, div-add-mod' (n / 10000) 100, div-div-eq-div-mul n 10000 100)

number_three : (l : List ℕ) → length l ≡ 3 → AreOctets l → three_octets (number_in l) ≡ l
unfolding number_in three_octets
number_three = of_three_lem (λ l. AreOctets l → three_octets (number_in l) ≡ l) (λ a b c small.
    let n = a * 65536 + b * 256 + c in
    let below = octet_below (a ∷ b ∷ c ∷ []) small in
    let same : n ≡ 256 * (256 * a + b) + c = omega arith in
    let low = split 256 (256 * a + b) c (below 2) in
    let high = split 256 a b (below 1) in
    let mid : n / 256 ≡ 256 * a + b = ap (λ (m : ℕ). m / 256) same ∙ low.0 in
    let first : n / 65536 ≡ a = omega (arith, div-div-eq-div-mul n 256 256, ap (λ (m : ℕ). m / 256) mid, high.0) in
    let second : n / 256 % 256 ≡ b = ap (λ (m : ℕ). m % 256) mid ∙ high.1 in
    let third : n % 256 ≡ c = ap (λ (m : ℕ). m % 256) same ∙ low.1 in
    λ i. first i ∷ second i ∷ third i ∷ [])

-- three octets are there where they say a day
some_day : (l : List ℕ) → is_day (day_of (number_in l)) ≡ true → length l ≡ 3
unfolding is_day day_of number_in
some_day l e = go (eqb (length l) 3) refl e
  where
    go : (b : Bool) → eqb (length l) 3 ≡ b
        → is_day (day_of (cond b (get_or l 0 0 * 65536 + get_or l 1 0 * 256 + get_or l 2 0) 0)) ≡ true → length l ≡ 3
    go true p q = eqb-true (length l) 3 p
    go false p q = absurd (false≢true q)

pub read_day : (l : List ℕ) → AreOctets l → is_day (day_of (number_in l)) ≡ true → day_octets (day_of (number_in l)) ≡ l
unfolding day_octets
read_day l small e = ap three_octets (day_number_lem (number_in l)) ∙ number_three l (some_day l e) small
