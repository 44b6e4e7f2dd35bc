-- A block of 512 bits as words of 32, and words as octets: FIPS 180-4, 3.1 and 5.2.1.
use Rattle.std.specs.Prelude.{List, [], ◌∷◌, ◌++◌, ℕ, ◌+◌, ◌*◌, ◌^◌, get_or}
use Rattle.sha256.specs.Padding.{octets}

-- 5.2.1: the word M_t of a block, octets 4 t to 4 t + 3, the most significant first
unfoldable pub word : List ℕ → ℕ → ℕ
word block t =
    get_or block (4 * t) 0 * 2 ^ 24 + get_or block (4 * t + 1) 0 * 2 ^ 16 + get_or block (4 * t + 2) 0 * 2 ^ 8 + get_or block
    (4 * t + 3) 0

-- 6.2.2, the end: the words joined, each as its 32 bits
unfoldable pub joined : List ℕ → List ℕ
joined [] = []
joined (x ∷ xs) = octets 4 x ++ joined xs
