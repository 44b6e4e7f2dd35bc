-- Hexadecimal characters, as a certificate reference has them (source 002, table 1).
use Rattle.std.specs.Prelude.{ℕ, ◌+◌, ◌-◌, ◌/◌, ◌%◌, Bool, cond, ◌&&◌, ◌||◌, List, [], ◌∷◌, leb}
use Prim.Native.Char.{code}
use Rattle.zone.specs.Alphabet.{is_digit}

-- A to F
unfoldable pub is_hex_letter : ℕ → Bool
is_hex_letter c = leb (code "A") c && leb c (code "F")

-- of 0-9 and A-F
unfoldable pub is_hex : ℕ → Bool
is_hex c = is_digit c || is_hex_letter c

unfoldable pub hex_of : ℕ → ℕ
hex_of c = cond (is_digit c) (c - code "0") (cond (is_hex_letter c) (c - code "A" + 10) 0)

-- a number below 256 in two hexadecimal characters
unfoldable pub hex_digit : ℕ → ℕ
hex_digit d = cond (leb d 9) (d + code "0") (d - 10 + code "A")

unfoldable pub hexadecimal : ℕ → List ℕ
hexadecimal n = hex_digit (n / 16) ∷ hex_digit (n % 16) ∷ []
