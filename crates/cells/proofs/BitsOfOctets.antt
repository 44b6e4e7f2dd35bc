-- A range of octets as its bits, the most significant first, and what the bits from a place on say. Every law about an entry goes
-- through these.
use Prim.Native.Nat.{ℕ, zero, suc, ◌+◌, ◌-◌, ◌*◌, ◌/◌, ◌%◌, ◌^◌, ◌≤◌, ◌<◌}
use mathlib.Core.Path.{◌≡◌, refl, ap, sym, ◌∙◌}
use mathlib.Core.Bool.{Bool, true}
use mathlib.Core.List.{List, [], ◌∷◌, ◌++◌}
use native.Mathlib.Nat.{zero-div, mod-lt, mod-eq_of_lt, mod-one, add-zero, two-pow-succ}
use native.Mathlib.Numerals.{add-one}
use native.Mathlib.Omega.{arith}
use borrow.Author.Tests.{lt-ltb, ltb-true}
use lib.Dec.{ltb}
use lib.ListN.{length, take, drop, get_or, replicate}
use lib.Pow.{mod-pow-add, high}
use lib.Seq.{get_or-drop, drop-drop}
use Rattle.lent.proofs.Bools.{and_both}
use Rattle.zone.specs.Alphabet.{every}
use Rattle.cells.proofs.Gather.{put_above, length-put}
use Rattle.cells.specs.Bits.{put, bit, bits_at}

-- ---- bits read

-- the bits of a range of octets
unfoldable pub bits_of : List ℕ → List ℕ
bits_of [] = []
bits_of (c ∷ s) = put 8 c (bits_of s)

-- the number that the first w bits say
unfoldable pub worth : ℕ → List ℕ → ℕ
worth zero b = 0
worth (suc w) b = get_or b 0 0 * 2 ^ w + worth w (drop 1 b)

behind_eight : (k : ℕ) → suc (suc (suc (suc (suc (suc (suc (suc k))))))) / 8 ≡ suc (k / 8)
behind_eight k = omega arith

within_eight : (k : ℕ) → suc (suc (suc (suc (suc (suc (suc (suc k))))))) % 8 ≡ k % 8
within_eight k = omega arith

pub bit_place : (s : List ℕ) (k : ℕ) → bit s k ≡ get_or (bits_of s) k 0
unfolding bit bits_of put
bit_place [] k = rw (zero-div (2 ^ (7 - k % 8)))
bit_place (c ∷ s) zero = refl
bit_place (c ∷ s) (suc zero) = refl
bit_place (c ∷ s) (suc (suc zero)) = refl
bit_place (c ∷ s) (suc (suc (suc zero))) = refl
bit_place (c ∷ s) (suc (suc (suc (suc zero)))) = refl
bit_place (c ∷ s) (suc (suc (suc (suc (suc zero))))) = refl
bit_place (c ∷ s) (suc (suc (suc (suc (suc (suc zero)))))) = refl
bit_place (c ∷ s) (suc (suc (suc (suc (suc (suc (suc zero))))))) = refl
bit_place (c ∷ s) (suc (suc (suc (suc (suc (suc (suc (suc k)))))))) = rw (behind_eight k, within_eight k) (bit_place s k)

pub number_place_lem : (s : List ℕ) (w k : ℕ) → bits_at s k w ≡ worth w (drop k (bits_of s))
unfolding bits_at worth
number_place_lem s zero k = refl
number_place_lem s (suc w) k =
    rw (
      bit_place s k,
      get_or-drop k (bits_of s) 0 0,
      drop-drop 1 k (bits_of s),
      number_place_lem s w (suc k),
      add-one k,
      add-zero k,
    )

suc_is : (w : ℕ) → 1 + w ≡ suc w
suc_is w = omega arith

pub worth_put : (w v : ℕ) (t : List ℕ) → worth w (put w v t) ≡ v % 2 ^ w
unfolding worth put
worth_put zero v t = sym (mod-one v)
worth_put (suc w) v t = rw (worth_put w v t) (sym (mod-pow-add v 1 w) ∙ ap (λ (n : ℕ). v % 2 ^ n) (suc_is w))

pub drop-put : (w v : ℕ) (t : List ℕ) → drop w (put w v t) ≡ t
unfolding put
drop-put zero v t = refl
drop-put (suc w) v t = drop-put w v t

-- ---- lists of bits

unfoldable pub is_bit : ℕ → Bool
is_bit c = ltb c 2

bit_range : (c : ℕ) → is_bit c ≡ true → c < 2
unfolding is_bit
bit_range c e = ltb-true c 2 e

pub put_bits : (w v : ℕ) (t : List ℕ) → every is_bit t ≡ true → every is_bit (put w v t) ≡ true
unfolding put every is_bit
put_bits zero v t e = e
put_bits (suc w) v t e = rw (lt-ltb (v / 2 ^ w % 2) 2 (mod-lt (v / 2 ^ w) (omega arith)), put_bits w v t e)

pub bits_of_lem : (s : List ℕ) → every is_bit (bits_of s) ≡ true
unfolding bits_of every
bits_of_lem [] = refl
bits_of_lem (c ∷ s) = put_bits 8 c (bits_of s) (bits_of_lem s)

pub worth_lt : (w : ℕ) (b : List ℕ) → every is_bit b ≡ true → worth w b < 2 ^ w
unfolding worth every
worth_lt zero b e = omega arith
worth_lt (suc w) [] e = omega (arith, worth_lt w [] e, two-pow-succ w)
worth_lt (suc w) (c ∷ b) e =
    let both = and_both (is_bit c) (every is_bit b) e in
    one_more_lem c (2 ^ w) (worth w b) (2 ^ suc w) (bit_range c both.0) (worth_lt w b both.1) (two-pow-succ w)
  where
    one_more_lem : (c p x q : ℕ) → c < 2 → x < p → q ≡ p + p → c * p + x < q
    one_more_lem zero p x q h k e = omega arith
    one_more_lem (suc zero) p x q h k e = omega arith
    one_more_lem (suc (suc c)) p x q h k e = absurd (omega arith)

-- what w bits say, in w bits, is those bits
pub put_worth : (w : ℕ) (b t : List ℕ) → every is_bit b ≡ true → w ≤ length b → put w (worth w b) t ≡ take w b ++ t
unfolding put worth every
put_worth zero b t e h = refl
put_worth (suc w) [] t e h = absurd (omega arith)
put_worth (suc w) (c ∷ b) t e h =
    let both = and_both (is_bit c) (every is_bit b) e in
    let less = worth_lt w b both.1 in
    rw (
      high c w less,
      mod-eq_of_lt (bit_range c both.0),
      put_above w c (worth w b) t,
      put_worth w b t both.1 (omega arith),
    )

pub length-bits : (s : List ℕ) → length (bits_of s) ≡ 8 * length s
unfolding bits_of
length-bits [] = refl
length-bits (c ∷ s) = rw (length-put 8 c (bits_of s), length-bits s) (omega arith)

-- ---- lists one behind the other

pub put_followed : (w v : ℕ) (t u : List ℕ) → put w v t ++ u ≡ put w v (t ++ u)
unfolding put
put_followed zero v t u = refl
put_followed (suc w) v t u = rw (put_followed w v t u)

pub bits_append : (a b : List ℕ) → bits_of (a ++ b) ≡ bits_of a ++ bits_of b
unfolding bits_of
bits_append [] b = refl
bits_append (c ∷ a) b = rw (bits_append a b) (sym (put_followed 8 c (bits_of a) (bits_of b)))

pub put_zeros : (m : ℕ) (t : List ℕ) → put m 0 t ≡ replicate m 0 ++ t
unfolding put
put_zeros zero t = refl
put_zeros (suc m) t = rw (zero-div (2 ^ m), put_zeros m t)

pub drop_bits : (n : ℕ) (s : List ℕ) → drop (8 * n) (bits_of s) ≡ bits_of (drop n s)
unfolding bits_of
drop_bits zero s = refl
drop_bits (suc n) [] = let none : 8 * suc n ≡ suc (7 + 8 * n) = omega arith in rw none
drop_bits (suc n) (c ∷ s) =
    let e : 8 * suc n ≡ 8 + 8 * n = omega arith in
    rw e (sym (drop-drop (8 * n) 8 (put 8 c (bits_of s))) ∙ ap (drop (8 * n)) (drop-put 8 c (bits_of s)) ∙ drop_bits n s)
