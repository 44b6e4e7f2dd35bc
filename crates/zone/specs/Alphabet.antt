-- The characters of the zone (document 01, "Refusal numbers", 2; Doc 9303-3, 4.3): A-Z, 0-9 and the filler `<`.
use Rattle.std.specs.Prelude.{ℕ, suc, Bool, true, cond, not, ◌&&◌, ◌||◌, List, [], ◌∷◌, leb, eqb}
use Prim.Native.Char.{code}

-- 0 to 9
unfoldable pub is_digit : ℕ → Bool
is_digit c = leb (code "0") c && leb c (code "9")

-- A to Z
unfoldable pub is_letter : ℕ → Bool
is_letter c = leb (code "A") c && leb c (code "Z")

abbrev pub filler : ℕ
filler = code "<"

unfoldable pub is_filler : ℕ → Bool
is_filler c = eqb c filler

unfoldable pub is_character : ℕ → Bool
is_character c = is_digit c || (is_letter c || is_filler c)

-- none of these
unfoldable pub is_foreign : ℕ → Bool
is_foreign c = not (is_character c)

-- every character passes a test
unfoldable pub every : (ℕ → Bool) → List ℕ → Bool
every p [] = true
every p (c ∷ s) = p c && every p s

-- the place of the first octet that passes a test, or the length where none does
unfoldable pub first : (ℕ → Bool) → List ℕ → ℕ
first p [] = 0
first p (c ∷ s) = cond (p c) 0 (suc (first p s))

-- the first octet outside the alphabet
unfoldable pub first_foreign : List ℕ → ℕ
first_foreign s = first is_foreign s

-- the first filler
unfoldable pub first_filler : List ℕ → ℕ
first_filler s = first is_filler s
