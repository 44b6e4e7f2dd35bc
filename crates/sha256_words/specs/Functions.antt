-- The six logical functions of SHA-256 on words of 32 bits: FIPS 180-4, 4.1.2, equations 4.2 to 4.7.
use Rattle.std.specs.Prelude.{ℕ}
use Rattle.sha256_words.specs.Words.{◌&◌, ◌⊕◌, complement, shr, rotr}

unfoldable pub Ch : ℕ → ℕ → ℕ → ℕ
Ch x y z = (x & y) ⊕ (complement x & z)

unfoldable pub Maj : ℕ → ℕ → ℕ → ℕ
Maj x y z = (x & y) ⊕ (x & z) ⊕ (y & z)

unfoldable pub Σ0 : ℕ → ℕ
Σ0 x = rotr 32 2 x ⊕ rotr 32 13 x ⊕ rotr 32 22 x

unfoldable pub Σ1 : ℕ → ℕ
Σ1 x = rotr 32 6 x ⊕ rotr 32 11 x ⊕ rotr 32 25 x

unfoldable pub σ0 : ℕ → ℕ
σ0 x = rotr 32 7 x ⊕ rotr 32 18 x ⊕ shr 3 x

unfoldable pub σ1 : ℕ → ℕ
σ1 x = rotr 32 17 x ⊕ rotr 32 19 x ⊕ shr 10 x
