-- Bits gathered by eights: whole octets say the bits that were gathered, and zero bits to the next octet make no difference.
use Prim.Native.Nat.{ℕ, zero, suc, ◌+◌, ◌-◌, ◌*◌, ◌/◌, ◌%◌, ◌^◌, ◌≤◌, ◌<◌}
use mathlib.Core.Path.{◌≡◌, refl, ap, sym, ◌∙◌}
use mathlib.Core.Bool.{Bool, true, false, cond}
use mathlib.Core.List.{List, [], ◌∷◌, ◌++◌, append-nil}
use native.Mathlib.Nat.{le_of_eq}
use native.Mathlib.Omega.{arith}
use borrow.Author.Tests.{ltb-true, eqb-true, eqb-false, ne_eqb}
use lib.Dec.{ltb, eqb}
use lib.ListN.{length, drop, replicate, length-drop, drop_of_length-le, take-append-drop}
use lib.Pow.{pow_pos}
use Rattle.lent.proofs.Bools.{and_both}
use Rattle.zone.specs.Alphabet.{every}
use Rattle.zone.specs.Octets.{is_octet, AreOctets}
use Rattle.zone.proofs.Every.{every_drop}
use Rattle.cells.proofs.Gather.{gathered_over}
use Rattle.cells.specs.Bits.{put, gathered, octets}
use Rattle.cells.proofs.BitsOfOctets.{bits_of, is_bit, put_followed, put_worth, put_zeros, worth, worth_lt}

pub gathered_eight : (c : ℕ) (t : List ℕ) → c < 256 → octets (put 8 c t) ≡ c ∷ octets t
unfolding octets
gathered_eight c t h =
    let whole : (0 * 2 ^ 8 + c) / 2 ^ 0 ≡ c = omega arith in
    let none : (0 * 2 ^ 8 + c) % 2 ^ 0 ≡ 0 = omega arith in
    rw (whole, none) at (gathered_over 0 0 8 c t (omega arith) (omega arith) (omega arith) h)

-- the first eight of a list of bits
pub first_eight : (b : List ℕ) → every is_bit b ≡ true → 8 ≤ length b → b ≡ put 8 (worth 8 b) (drop 8 b)
first_eight b e h = sym (put_worth 8 b (drop 8 b) e h ∙ take-append-drop 8 b)

pub octets_first : (b : List ℕ) → every is_bit b ≡ true → 8 ≤ length b → octets b ≡ worth 8 b ∷ octets (drop 8 b)
octets_first b e h = ap octets (first_eight b e h) ∙ gathered_eight (worth 8 b) (drop 8 b) (worth_lt 8 b e)

-- whole octets before others
pub octets_append : (q : ℕ) (b t : List ℕ) → every is_bit b ≡ true → length b ≡ 8 * q → octets (b ++ t) ≡ octets b ++ octets t
unfolding octets gathered
octets_append zero b t e h = let none : b ≡ [] = drop_of_length-le b {i = 0} (le_of_eq h) in rw none
octets_append (suc q) b t e h =
    let w = worth 8 b in
    let left : length (drop 8 b) ≡ 8 * q = rw (length-drop 8 b) (omega arith) in
    let front : b ++ t ≡ put 8 w (drop 8 b ++ t) = ap (λ (l : List ℕ). l ++ t) (first_eight b e (omega arith))
    ∙ put_followed 8 w (drop 8 b) t in
    ap octets front ∙ gathered_eight w (drop 8 b ++ t) (worth_lt 8 b e)
    ∙ ap (λ (l : List ℕ). w ∷ l) (octets_append q (drop 8 b) t (every_drop is_bit 8 b e) left)
    ∙ sym (ap (λ (l : List ℕ). l ++ octets t) (octets_first b e (omega arith)))

-- the bits of whole octets are those that were gathered
pub bits_octets : (q : ℕ) (b : List ℕ) → every is_bit b ≡ true → length b ≡ 8 * q → bits_of (octets b) ≡ b
unfolding octets gathered bits_of
bits_octets zero b e h = let none : b ≡ [] = drop_of_length-le b {i = 0} (le_of_eq h) in rw none
bits_octets (suc q) b e h =
    let left : length (drop 8 b) ≡ 8 * q = rw (length-drop 8 b) (omega arith) in
    ap bits_of (octets_first b e (omega arith))
    ∙ ap (put 8 (worth 8 b)) (bits_octets q (drop 8 b) (every_drop is_bit 8 b e) left)
    ∙ sym (first_eight b e (omega arith))

-- octets below 256 are those that their bits give
pub octets_bits : (s : List ℕ) → AreOctets s → octets (bits_of s) ≡ s
unfolding octets gathered bits_of every is_octet
octets_bits [] e = refl
octets_bits (c ∷ s) e =
    let both = and_both (ltb c 256) (every is_octet s) e in
    gathered_eight c (bits_of s) (ltb-true c 256 both.0) ∙ ap (λ (l : List ℕ). c ∷ l) (octets_bits s both.1)

-- zero bits to the next octet make no difference
filled : (n v : ℕ) → n < 8 → 0 < n → gathered n v (replicate (8 - n) 0) ≡ v * 2 ^ (8 - n) ∷ []
unfolding gathered
filled n v h k =
    let zeros : put (8 - n) 0 [] ≡ replicate (8 - n) 0 = put_zeros (8 - n) [] ∙ append-nil (replicate (8 - n) 0) in
    let full : n + (8 - n) - 8 ≡ 0 = omega arith in
    let whole : (v * 2 ^ (8 - n) + 0) / 2 ^ 0 ≡ v * 2 ^ (8 - n) = omega arith in
    rw (zeros, full, whole) at (gathered_over n v (8 - n) 0 [] h (omega arith) (omega arith) (pow_pos (8 - n)))

pub gathered_zeros : (q m n v : ℕ) (b : List ℕ) → n < 8 → m < 8 → n + (length b + m) ≡ 8 * q
    → gathered n v (b ++ replicate m 0) ≡ gathered n v b
unfolding gathered
gathered_zeros q m zero v [] h k e = let z : m ≡ 0 = omega arith in rw z
gathered_zeros q m (suc n) v [] h k e =
    let z : m ≡ 8 - suc n = omega arith in
    let y : eqb (suc n) 0 ≡ false = ne_eqb (suc n) 0 (λ x. omega arith) in
    rw (z, y) (filled (suc n) v h (omega arith))
gathered_zeros q m n v (c ∷ b) h k e = go (eqb n 7) refl (λ (p i x : ℕ) f g. gathered_zeros p m i x b f k g)
  where
    go : (x : Bool) → eqb n 7 ≡ x
        → ((p i x : ℕ) → i < 8 → i + (length b + m) ≡ 8 * p → gathered i x (b ++ replicate m 0) ≡ gathered i x b)
        → cond x ((v * 2 + c) ∷ gathered 0 0 (b ++ replicate m 0)) (gathered (suc n) (v * 2 + c) (b ++ replicate m 0))
        ≡ cond x ((v * 2 + c) ∷ gathered 0 0 b) (gathered (suc n) (v * 2 + c) b)
    go true y rest =
        let seven : n ≡ 7 = eqb-true n 7 y in
        ap (λ (l : List ℕ). (v * 2 + c) ∷ l) (rest (q - 1) 0 0 (omega arith) (omega arith))
    go false y rest =
        let other : n ≡ 7 → ⊥ = eqb-false n 7 y in
        rest q (suc n) (v * 2 + c) (omega arith) (omega arith)
