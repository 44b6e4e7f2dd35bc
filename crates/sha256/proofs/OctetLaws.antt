-- Laws on numbers as octets and words as octets joined, for the stores that write them.
use mathlib.Core.Path.{◌≡◌, refl, ap, sym, ◌∙◌}
use mathlib.Core.List.{List, [], ◌∷◌, ◌++◌, append-nil, append_assoc}
use Prim.Native.Nat.{ℕ, zero, suc, ◌+◌, ◌-◌, ◌*◌, ◌/◌, ◌%◌, ◌^◌, ◌≤◌, ◌<◌}
use native.Mathlib.Nat.{zero-add, suc-add, mul_comm, div-one, mul-div-mul_left}
use native.Mathlib.Numerals.{add-one}
use native.Mathlib.Omega.{arith}
use lib.ListN.{length, take, drop, get_or, length-drop, length-append, drop_of_length-le}
use lib.Dec.{lit<}
use lib.Pow.{shr-shr, field, mod-mod-pow}
use lib.Seq.{sets, sets-eq, take-suc, take_at, drop-append-add, drop-drop, length-take-le, take_all}
use Rattle.std.specs.Int.{to_be_bytes, w32}
use Rattle.sha256.specs.Padding.{octets}
use Rattle.sha256.specs.Parsing.{joined}
use Rattle.sha256.proofs.ListLaws.{sets_end}

pub length-octets : (k v : ℕ) → length (octets k v) ≡ k
unfolding octets
length-octets zero v = refl
length-octets (suc k) v = ap suc (length-octets k v)

-- a word's octets as the library gives them
pub four_octets : (x : ℕ) → octets 4 x ≡ to_be_bytes w32 x
unfolding octets
four_octets x = rw div-one

-- a part of a list that became another
pub part_put : (l : List ℕ) (at n : ℕ) (t : List ℕ) → n ≡ length t → at + length t ≤ length l
    → take at l ++ (t ++ drop n (drop at l)) ≡ sets l at t
part_put l at n t e fits = let q = rw append_assoc at (sets-eq t l at fits) in rw (e, drop-drop) (sym q)

pub joined_append : (a b : List ℕ) → joined (a ++ b) ≡ joined a ++ joined b
unfolding joined
joined_append [] b = refl
joined_append (x ∷ a) b = rw (joined_append a b, append_assoc)

pub length-joined : (h : List ℕ) → length (joined h) ≡ 4 * length h
unfolding joined
length-joined [] = refl
length-joined (x ∷ h) = simp (length-append, length-octets, length-joined h) (omega arith)

-- the words before place i are joined in front: one word more
pub joined_more : (h l : List ℕ) (i : ℕ) → i < length h → length l ≡ 4 * length h
    → sets (joined (take i h) ++ drop (4 * i) l) (4 * i) (octets 4 (get_or h i 0)) ≡ joined (take (i + 1) h)
    ++ drop (4 * (i + 1)) l
unfolding joined
joined_more h l i hi hl =
    let P = joined (take i h) in
    let D = drop (4 * i) l in
    let vs = octets 4 (get_or h i 0) in
    let n : length P ≡ 4 * i = length-joined (take i h) ∙ ap (λ (k : ℕ). 4 * k) (length-take-le i h (omega arith)) in
    let nv : length vs ≡ 4 = length-octets 4 (get_or h i 0) in
    let nd : length D ≡ length l - 4 * i = length-drop (4 * i) l in
    let fits : 4 * i + length vs ≤ length (P ++ D) = simp length-append (omega arith) in
    let four : 4 * i + 4 ≡ 4 * (i + 1) = omega arith in
    let rest : drop (4 * i + 4) (P ++ D) ≡ drop 4 D =
    ap (λ (k : ℕ). drop (k + 4) (P ++ D)) (sym n) ∙ drop-append-add P D 4 in
    sets-eq vs (P ++ D) (4 * i) fits
    ∙ rw (
      nv,
      take_at P D (4 * i) n,
      rest,
      drop-drop 4 (4 * i) l,
      four,
      add-one,
      take-suc h i 0,
      joined_append (take i h),
      append-nil,
    )

-- a number's octets look at its low bits only, whatever stands above them
octets_mod : (k m v : ℕ) → octets k (v % 2 ^ (m + 8 * k)) ≡ octets k v
unfolding octets
octets_mod zero m v = refl
octets_mod (suc k) m v =
    let e : m + 8 * suc k ≡ (m + 8) + 8 * k = omega arith in
    rw (e, field v (m + 8) (8 * k), mod-mod-pow (v / 2 ^ (8 * k)) m 8, octets_mod k (m + 8) v)

-- the octets of a number are those of its high part and those of its low part
octets_append : (j k v : ℕ) → octets (j + k) v ≡ octets j (v / 2 ^ (8 * k)) ++ octets k v
unfolding octets
octets_append zero k v = rw zero-add
octets_append (suc j) k v =
    let e : 8 * k + 8 * j ≡ 8 * (j + k) = omega arith in
    rw (suc-add, shr-shr v (8 * k) (8 * j), e, octets_append j k v)

-- the length of n octets in bits, stored as two words at the end of a block
pub put_length : (l : List ℕ) (n : ℕ) → length l ≡ 64
    → sets (sets l 56 (octets 4 (n / 2 ^ 29 % 2 ^ 32))) 60 (octets 4 (n * 2 ^ 3 % 2 ^ 64 % 2 ^ 32)) ≡ take 56 l
    ++ octets 8 (8 * n)
put_length l n len =
    let a = octets 4 (8 * n / 2 ^ 32) in
    let b = octets 4 (8 * n) in
    let high : octets 4 (n / 2 ^ 29 % 2 ^ 32) ≡ a =
    octets_mod 4 0 (n / 2 ^ 29) ∙ ap (octets 4) (sym (mul-div-mul_left n (2 ^ 29) (lit< tt))) in
    let low : octets 4 (n * 2 ^ 3 % 2 ^ 64 % 2 ^ 32) ≡ b =
    octets_mod 4 0 (n * 2 ^ 3 % 2 ^ 64) ∙ octets_mod 4 32 (n * 2 ^ 3) ∙ ap (octets 4) (mul_comm n 8) in
    let na : length a ≡ 4 = length-octets 4 (8 * n / 2 ^ 32) in
    let nb : length b ≡ 4 = length-octets 4 (8 * n) in
    let at : 56 + length a ≡ 60 = rw na in
    let all : 56 + (length a + length b) ≡ length l = rw (na, nb, len) in
    rw (high, low, octets_append 4 4 (8 * n)) (rw at at (sets_end a b l 56 all))

-- all words joined
pub joined_all : (h l : List ℕ) (i : ℕ) → i ≡ length h → length l ≡ 4 * length h → joined (take i h) ++ drop (4 * i) l ≡ joined h
joined_all h l i e n =
    let none : drop (4 * i) l ≡ [] = drop_of_length-le l {i = 4 * i} (omega arith) in
    let some : take i h ≡ h = take_all i h (omega arith) in
    rw (none, some, append-nil)
