-- Words of w bits, as the numbers below 2 ^ w, and the operations on them: FIPS 180-4, 2.2.2 and 3.2.
-- AND, OR and XOR are the kit's own, of `lib.Bits`; the complement and the shifts are arithmetic.
use Rattle.std.specs.Prelude.{ℕ, ◌+◌, ◌-◌, ◌*◌, ◌/◌, ◌%◌, ◌^◌, bit_and, bit_or, bit_xor}

-- 2.2.2: bitwise AND, bitwise XOR, and the complement of a word of 32 bits
infixl 70 ◌&◌
abbrev pub ◌&◌ : ℕ → ℕ → ℕ
x & y = bit_and x y

infixl 60 ◌⊕◌
abbrev pub ◌⊕◌ : ℕ → ℕ → ℕ
x ⊕ y = bit_xor x y

abbrev pub complement : ℕ → ℕ
complement x = (2 ^ 32 - 1) - x

-- 3.2, 2: addition of words of 32 bits, modulo 2 ^ 32
infixl 65 ◌⊞◌
unfoldable pub ◌⊞◌ : ℕ → ℕ → ℕ
x ⊞ y = (x + y) % 2 ^ 32

-- 3.2, 3: the right shift by n
abbrev pub shr : ℕ → ℕ → ℕ
shr n x = x / 2 ^ n

-- 2.2.2: the left shift by n of a word of w bits, which loses what leaves the word
abbrev pub shl : ℕ → ℕ → ℕ → ℕ
shl w n x = (x * 2 ^ n) % 2 ^ w

-- 3.2, 4: the rotation to the right by n of a word of w bits, (x >> n) OR (x << w - n)
unfoldable pub rotr : ℕ → ℕ → ℕ → ℕ
rotr w n x = bit_or (shr n x) (shl w (w - n) x)
