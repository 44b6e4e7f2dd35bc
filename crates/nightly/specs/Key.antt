-- Keys and their order: document 01, "The entry", "thirty bytes, the key"; document 02, request 2026-14, "compared as unsigned
-- bytes from the first".
use Rattle.std.specs.Prelude.{ℕ, Bool, true, false, cond, List, [], ◌∷◌, eqb, ltb, take, drop}

-- the key of the entry that stands at a place
unfoldable pub key_at : List ℕ → ℕ → List ℕ
key_at w at = take 30 (drop at w)

-- the first octets that differ decide; nothing is below every key
unfoldable pub is_below : (a b : List ℕ) → Bool
is_below [] [] = false
is_below [] (y ∷ b) = true
is_below (x ∷ a) [] = false
is_below (x ∷ a) (y ∷ b) = cond (eqb x y) (is_below a b) (ltb x y)
