-- The code of a character: document 01, "The entry".
use Rattle.std.specs.Prelude.{ℕ, ◌+◌, ◌-◌, cond, eqb, leb}
use Prim.Native.Char.{code}
use Rattle.zone.specs.Alphabet.{is_digit, is_letter, filler}

-- `<` 0, digits 1-10, letters 11-36
unfoldable pub code_of : ℕ → ℕ
code_of c = cond (is_digit c) (c - code "0" + 1) (cond (is_letter c) (c - code "A" + 11) 0)

-- the character of a code; 0, which is none, for a code above 36
unfoldable pub character_of : ℕ → ℕ
character_of n = cond (eqb n 0) filler (cond (leb n 10) (n - 1 + code "0") (cond (leb n 36) (n - 11 + code "A") 0))
