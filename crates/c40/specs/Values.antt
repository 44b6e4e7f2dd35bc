-- The characters of C40 and their values: document 02, 2026-08, "Values are 3 for space, 4-13 digits, 14-39 letters" (source 002,
-- table 16).
use Rattle.std.specs.Prelude.{ℕ, ◌+◌, ◌-◌, Bool, cond, ◌&&◌, ◌||◌, leb, eqb}
use Prim.Native.Char.{code}
use Rattle.zone.specs.Alphabet.{is_digit, is_letter}

abbrev pub space : ℕ
space = code " "

-- which characters a text of C40 has
unfoldable pub is_c40 : ℕ → Bool
is_c40 c = is_digit c || (is_letter c || eqb c space)

unfoldable pub value_of : ℕ → ℕ
value_of c = cond (is_digit c) (c - code "0" + 4) (cond (is_letter c) (c - code "A" + 14) 3)

-- the value of a character is 3 to 39
unfoldable pub is_value : ℕ → Bool
is_value v = leb 3 v && leb v 39

-- the character of a value
unfoldable pub character_of : ℕ → ℕ
character_of v = cond (leb v 3) space (cond (leb v 13) (v - 4 + code "0") (v - 14 + code "A"))
