-- Bits, the most significant first: document 01, "The entry". Written, a number goes before the bits that follow it; read, it
-- is the bits from a place on.
use Rattle.std.specs.Prelude.{ℕ, zero, suc, ◌+◌, ◌-◌, ◌*◌, ◌/◌, ◌%◌, ◌^◌, cond, List, [], ◌∷◌, eqb, get_or}

-- a number in w bits, and then what follows
unfoldable pub put : (w v : ℕ) → List ℕ → List ℕ
put zero v t = t
put (suc w) v t = ((v / 2 ^ w) % 2) ∷ put w v t

-- bits by eights, where n bits of the first eight are already at hand and say v; at the end, zero bits to the next octet
unfoldable pub gathered : (n v : ℕ) → List ℕ → List ℕ
gathered n v [] = cond (eqb n 0) [] ((v * 2 ^ (8 - n)) ∷ [])
gathered n v (b ∷ t) = cond (eqb n 7) ((v * 2 + b) ∷ gathered 0 0 t) (gathered (suc n) (v * 2 + b) t)

unfoldable pub octets : List ℕ → List ℕ
octets t = gathered 0 0 t

-- the k-th bit of a range of octets, 0 past its end
unfoldable pub bit : List ℕ → ℕ → ℕ
bit s k = (get_or s (k / 8) 0 / 2 ^ (7 - k % 8)) % 2

-- the number that the w bits from the k-th on say
unfoldable pub bits_at : List ℕ → (k w : ℕ) → ℕ
bits_at s k zero = 0
bits_at s k (suc w) = bit s k * 2 ^ w + bits_at s (suc k) w
