-- The check digit: document 01, "The text" (Doc 9303-3, 4.9).
use Rattle.std.specs.Prelude.{ℕ, suc, ◌+◌, ◌*◌, ◌-◌, ◌%◌, cond, List, [], ◌∷◌, get_or}
use Prim.Native.Char.{code}
use Rattle.zone.specs.Alphabet.{is_digit, is_letter}

-- digits count as themselves, A to Z as 10 to 35, `<` as 0
unfoldable pub value : ℕ → ℕ
value c = cond (is_digit c) (c - code "0") (cond (is_letter c) (c - code "A" + 10) 0)

-- weights 7, 3, 1 repeat
unfoldable pub weight : ℕ → ℕ
weight place = get_or (7 ∷ 3 ∷ 1 ∷ []) (place % 3) 0

-- the weighted sum of characters, the first of which has the weight of a place
unfoldable pub sum_from : ℕ → List ℕ → ℕ
sum_from place [] = 0
sum_from place (c ∷ s) = value c * weight place + sum_from (suc place) s

-- the sum modulo 10
unfoldable pub check_of : List ℕ → ℕ
check_of s = sum_from 0 s % 10

-- written as a digit
unfoldable pub digit_of : List ℕ → ℕ
digit_of s = code "0" + check_of s
