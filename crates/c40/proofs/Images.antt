-- The reader takes exactly the images, and no two texts share one.
use Prim.Native.Nat.{ℕ, zero, suc, ◌+◌, ◌-◌, ◌*◌, ◌/◌, ◌%◌, ◌≤◌, ◌<◌}
use mathlib.Core.Path.{◌≡◌, refl, sym, ap, ◌∙◌}
use mathlib.Core.Bool.{true, ◌&&◌}
use mathlib.Core.List.{List, [], ◌∷◌, ◌++◌}
use mathlib.Core.Logic.{◌↔◌}
use native.Mathlib.Nat.{add-div_right, mod-lt, div-lt_iff_lt-mul}
use native.Mathlib.Omega.{arith}
use borrow.Author.Tests.{eqb-true, ltb-true, lt-ltb}
use lib.Dec.{eqb}
use lib.ListN.{length}
use Rattle.lent.proofs.Bools.{and_both}
use Rattle.zone.specs.Alphabet.{every}
use Rattle.zone.specs.Octets.{is_octet, AreOctets}
use Rattle.c40.specs.Values.{is_c40, value_of, is_value}
use Rattle.c40.specs.Image.{packed, pair, image_of}
use Rattle.c40.specs.Reader.{Reading, characters, no_image, number_of, values_of, is_three, three, is_two, two, is_one, one}
use Rattle.c40.specs.Reader.{before, last_pair, read_c40}
use Rattle.c40.proofs.Coding.{c40_range, has_value, value_tells, is_held, character_tells, value_range, above_values}
use Rattle.c40.proofs.Packing.{packed_values, values_packed, pair_number, number_pair, first_above, some_number}
use Rattle.c40.proofs.Pairs.{Pairs, none, of_one, of_two, of_three, read_pairs, same_text, no_text}

-- an image is read as its text: pair by pair, and then whole

value_most : (c : ℕ) → is_c40 c ≡ true → value_of c ≤ 39
unfolding has_value
value_most c h = (value_range (value_of c) (value_tells c h).0).1

packed_read : (a b c : ℕ) → b ≤ 39 → c ≤ 39
    → values_of (number_of (packed a b c / 256) (packed a b c % 256)) ≡ record { first = a; second = b; third = c }
packed_read a b c hb hc = ap values_of (pair_number (packed a b c)) ∙ packed_values a b c hb hc

three_image : (c d e : ℕ) (s : List ℕ) → is_c40 c ≡ true → is_c40 d ≡ true → is_c40 e ≡ true
    → read_c40 (pair (packed (value_of c) (value_of d) (value_of e)) s) ≡ before (c ∷ d ∷ e ∷ []) (read_c40 s)
unfolding read_c40 pair is_three three has_value
three_image c d e s hc hd he =
    let v = packed_read (value_of c) (value_of d) (value_of e) (value_most d hd) (value_most e he) in
    let tc = value_tells c hc in
    let td = value_tells d hd in
    let te = value_tells e he in
    rw (v, tc.0, td.0, te.0, tc.1, td.1, te.1)

two_image : (c d : ℕ) → is_c40 c ≡ true → is_c40 d ≡ true
    → read_c40 (pair (packed (value_of c) (value_of d) 0) []) ≡ characters (c ∷ d ∷ [])
unfolding read_c40 pair last_pair is_three is_two two is_value has_value
two_image c d hc hd =
    let v = packed_read (value_of c) (value_of d) 0 (value_most d hd) (omega arith) in
    let tc = value_tells c hc in
    let td = value_tells d hd in
    rw (v, tc.0, td.0, tc.1, td.1)

one_image : (c : ℕ) → is_c40 c ≡ true → read_c40 (0xFE ∷ (c + 1) ∷ []) ≡ characters (c ∷ [])
unfolding read_c40 last_pair is_three is_two is_one one
one_image c h =
    let e : c + 1 - 1 ≡ c = omega arith in
    rw (above_values (values_of (number_of 0xFE (c + 1))).first (first_above (c + 1)), e, h)

pub image_read : (t : List ℕ) → every is_c40 t ≡ true → read_c40 (image_of t) ≡ characters t
unfolding image_of every read_c40 before
image_read [] h = refl
image_read (c ∷ []) h = one_image c (and_both (is_c40 c) true h).0
image_read (c ∷ d ∷ []) h =
    let p = and_both (is_c40 c) (is_c40 d && true) h in
    two_image c d p.0 (and_both (is_c40 d) true p.1).0
image_read (c ∷ d ∷ e ∷ t) h =
    let p = and_both (is_c40 c) (is_c40 d && (is_c40 e && every is_c40 t)) h in
    let q = and_both (is_c40 d) (is_c40 e && every is_c40 t) p.1 in
    let r = and_both (is_c40 e) (every is_c40 t) q.1 in
    three_image c d e (image_of t) p.0 q.0 r.0 ∙ rw (image_read t r.1)

-- what is read is an image: pair by pair, and then whole

-- the octets of a pair are those of its values
values_pair : (x y : ℕ) (s : List ℕ) → y < 256 → is_value (values_of (number_of x y)).first ≡ true
    → pair (packed (values_of (number_of x y)).first (values_of (number_of x y)).second (values_of (number_of x y)).third) s
    ≡ x ∷ y ∷ s
values_pair x y s h e = rw (values_packed (number_of x y) (some_number (number_of x y) e)) (number_pair x y s h)

-- what is read is of C40's characters
pairs_c40 : {s t : List ℕ} → Pairs s t → every is_c40 t ≡ true
unfolding every one two three is_one is_two is_three is_held
pairs_c40 none = refl
pairs_c40 (of_one x y p q r) = rw (and_both (eqb x 0xFE) (is_c40 (y - 1)) r).1
pairs_c40 (of_two x y p q) =
    let v = values_of (number_of x y) in
    let a = and_both (is_value v.first) (is_value v.second && eqb v.third 0) q in
    let b = and_both (is_value v.second) (eqb v.third 0) a.1 in
    rw ((character_tells v.first a.0).0, (character_tells v.second b.0).0)
pairs_c40 (of_three x y p more) =
    let v = values_of (number_of x y) in
    let a = and_both (is_value v.first) (is_value v.second && is_value v.third) p in
    let b = and_both (is_value v.second) (is_value v.third) a.1 in
    rw (
      (character_tells v.first a.0).0,
      (character_tells v.second b.0).0,
      (character_tells v.third b.1).0,
      pairs_c40 more,
    )

pub read_c40_lem : (s t : List ℕ) → read_c40 s ≡ characters t → every is_c40 t ≡ true
read_c40_lem s t e = pairs_c40 (read_pairs s t e)

one_read : (x y : ℕ) → is_one x y ≡ true → image_of (one y) ≡ x ∷ y ∷ []
unfolding image_of one is_one
one_read x y e =
    let both = and_both (eqb x 0xFE) (is_c40 (y - 1)) e in
    let least = (c40_range (y - 1) both.1).0 in
    let same : y - 1 + 1 ≡ y = omega arith in
    rw (eqb-true x 0xFE both.0, same)

two_read : (x y : ℕ) → y < 256 → is_two (values_of (number_of x y)) ≡ true
    → image_of (two (values_of (number_of x y))) ≡ x ∷ y ∷ []
unfolding image_of two is_two is_held
two_read x y h e =
    let v = values_of (number_of x y) in
    let p = and_both (is_value v.first) (is_value v.second && eqb v.third 0) e in
    let q = and_both (is_value v.second) (eqb v.third 0) p.1 in
    let whole = rw (eqb-true v.third 0 q.1) at (values_pair x y [] h p.0) in
    rw ((character_tells v.first p.0).1, (character_tells v.second q.0).1) whole

three_read : (x y : ℕ) (s t : List ℕ) → y < 256 → is_three (values_of (number_of x y)) ≡ true → image_of t ≡ s
    → image_of (three (values_of (number_of x y)) ++ t) ≡ x ∷ y ∷ s
unfolding image_of three is_three is_held
three_read x y s t h e hs =
    let v = values_of (number_of x y) in
    let p = and_both (is_value v.first) (is_value v.second && is_value v.third) e in
    let q = and_both (is_value v.second) (is_value v.third) p.1 in
    rw ((character_tells v.first p.0).1, (character_tells v.second q.0).1, (character_tells v.third q.1).1, hs)
    (values_pair x y s h p.0)

second_octet : (x y : ℕ) (s : List ℕ) → AreOctets (x ∷ y ∷ s) → (y < 256) × AreOctets s
unfolding every is_octet
second_octet x y s o =
    let p = and_both (is_octet x) (is_octet y && every is_octet s) o in
    let q = and_both (is_octet y) (every is_octet s) p.1 in
    (ltb-true y 256 q.0, q.1)

pairs_image : {s t : List ℕ} → Pairs s t → AreOctets s → image_of t ≡ s
unfolding image_of
pairs_image none o = refl
pairs_image (of_one x y p q r) o = one_read x y r
pairs_image (of_two x y p q) o = two_read x y (second_octet x y [] o).0 q
pairs_image (of_three x y {s} {t} p more) o =
    let octets = second_octet x y s o in
    three_read x y s t octets.0 p (pairs_image more octets.1)

-- octets are read as a text exactly when it is one of C40's characters, and they are its image
pub reads_exactly : (s t : List ℕ) → AreOctets s → (read_c40 s ≡ characters t) ↔ ((every is_c40 t ≡ true) × (image_of t ≡ s))
reads_exactly s t o = (
  λ e. (read_c40_lem s t e, pairs_image (read_pairs s t e) o),
  λ w. ap read_c40 (sym w.1) ∙ image_read t w.0,
)

-- and they are refused exactly when they are no such text's image
pub refuses_exactly : (s : List ℕ) → AreOctets s
    → (read_c40 s ≡ no_image) ↔ ((t : List ℕ) → every is_c40 t ≡ true → image_of t ≡ s → ⊥)
refuses_exactly s o = (λ e t p q. no_text t (sym e ∙ (reads_exactly s t o).1 (p, q)), go (read_c40 s) refl)
  where
    go : (r : Reading) → read_c40 s ≡ r → ((t : List ℕ) → every is_c40 t ≡ true → image_of t ≡ s → ⊥) → read_c40 s ≡ no_image
    go (characters t) e h = let w = (reads_exactly s t o).0 e in absurd (h t w.0 w.1)
    go no_image e h = e

-- no two texts share an image
pub image_tells : (t u : List ℕ) → every is_c40 t ≡ true → every is_c40 u ≡ true → image_of t ≡ image_of u → t ≡ u
image_tells t u p q e = same_text t u (sym (image_read t p) ∙ ap read_c40 e ∙ image_read u q)

-- texts joined behind whole pairs
pub images_joined : (k : ℕ) (t u : List ℕ) → length t ≡ 3 * k → image_of (t ++ u) ≡ image_of t ++ image_of u
unfolding image_of pair
images_joined zero [] u e = refl
images_joined zero (c ∷ t) u e = absurd (omega arith)
images_joined (suc k) [] u e = absurd (omega arith)
images_joined (suc k) (c ∷ []) u e = absurd (omega arith)
images_joined (suc k) (c ∷ d ∷ []) u e = absurd (omega arith)
images_joined (suc k) (c ∷ d ∷ e ∷ t) u h = rw (images_joined k t u (omega arith))

-- an image has two octets for each three characters that are begun
pub image_length : (t : List ℕ) → length (image_of t) ≡ 2 * ((length t + 2) / 3)
unfolding image_of pair
image_length [] = refl
image_length (c ∷ []) = refl
image_length (c ∷ d ∷ []) = refl
image_length (c ∷ d ∷ e ∷ t) =
    let n : length (c ∷ d ∷ e ∷ t) + 2 ≡ length t + 2 + 3 = omega arith in
    let more = add-div_right (length t + 2) {k = 3} (omega arith) in
    rw (n, more) (omega (arith, image_length t))

pub pair_octets : (n : ℕ) (s : List ℕ) → n < 65536 → AreOctets s → AreOctets (pair n s)
unfolding every is_octet pair
pair_octets n s h o =
    let low : n % 256 < 256 = mod-lt n (omega arith) in
    let high : n / 256 < 256 = (div-lt_iff_lt-mul {k = 256} {x = n} {y = 256} (omega arith)).1 (omega arith) in
    rw (lt-ltb (n / 256) 256 high, lt-ltb (n % 256) 256 low, o)

pub packed_most : (a b c : ℕ) → a ≤ 39 → b ≤ 39 → c ≤ 39 → packed a b c < 65536
unfolding packed
packed_most a b c ha hb hc = omega arith

-- and each of them is below 256
pub image_octets : (t : List ℕ) → every is_c40 t ≡ true → AreOctets (image_of t)
unfolding image_of every is_octet
image_octets [] h = refl
image_octets (c ∷ []) h =
    let most = (c40_range c (and_both (is_c40 c) true h).0).1 in
    rw (lt-ltb (c + 1) 256 (omega arith))
image_octets (c ∷ d ∷ []) h =
    let p = and_both (is_c40 c) (is_c40 d && true) h in
    let hd = (and_both (is_c40 d) true p.1).0 in
    pair_octets (packed (value_of c) (value_of d) 0) []
    (packed_most (value_of c) (value_of d) 0 (value_most c p.0) (value_most d hd) (omega arith)) refl
image_octets (c ∷ d ∷ e ∷ t) h =
    let p = and_both (is_c40 c) (is_c40 d && (is_c40 e && every is_c40 t)) h in
    let q = and_both (is_c40 d) (is_c40 e && every is_c40 t) p.1 in
    let r = and_both (is_c40 e) (every is_c40 t) q.1 in
    pair_octets (packed (value_of c) (value_of d) (value_of e)) (image_of t)
    (packed_most (value_of c) (value_of d) (value_of e) (value_most c p.0) (value_most d q.0) (value_most e r.0))
    (image_octets t r.1)
