-- Padding a message to whole blocks: FIPS 180-4, 5.1.1, for a message of octets.
use Rattle.std.specs.Prelude.{List, [], ◌∷◌, ◌++◌, ℕ, zero, suc, ◌-◌, ◌*◌, ◌/◌, ◌%◌, ◌^◌, length, replicate}

-- k octets of a number, the most significant first: as the paper writes a number as a string of 8 k bits (3.1)
unfoldable pub octets : ℕ → ℕ → List ℕ
octets zero v = []
octets (suc k) v = v / 2 ^ (8 * k) % 256 ∷ octets k v

-- how many zero octets follow the octet of the bit "1": so few that they end 8 octets before a block of 64 does
unfoldable pub zeros : ℕ → ℕ
zeros n = (119 - n % 64) % 64

-- what follows a message of n octets: the bit "1" (with seven of the zero bits it is the octet 80), the zero bits, and the
-- message's length in bits as 64 bits. (The paper has messages of fewer than 2 ^ 64 bits: of a longer one these are its length's
-- lowest 64.)
unfoldable pub padding : ℕ → List ℕ
padding n = 0x80 ∷ (replicate (zeros n) 0 ++ octets 8 (8 * n))

unfoldable pub padded : List ℕ → List ℕ
padded m = m ++ padding (length m)
