-- The image of a text: document 02, 2026-08, "three values to two octets as 1600a + 40b + c + 1, two left over with 0 as the
-- third, one left over as FE and the character's code plus one".
use Rattle.std.specs.Prelude.{ℕ, ◌+◌, ◌*◌, ◌/◌, ◌%◌, List, [], ◌∷◌}
use Rattle.c40.specs.Values.{value_of}

unfoldable pub packed : (a b c : ℕ) → ℕ
packed a b c = 1600 * a + 40 * b + c + 1

-- the two octets of a number, and then others (source 002, annex C: "I16 div 256", "I16 mod 256")
unfoldable pub pair : ℕ → List ℕ → List ℕ
pair n s = (n / 256) ∷ (n % 256) ∷ s

unfoldable pub image_of : List ℕ → List ℕ
image_of [] = []
image_of (c ∷ []) = 0xFE ∷ (c + 1) ∷ []
image_of (c ∷ d ∷ []) = pair (packed (value_of c) (value_of d) 0) []
image_of (c ∷ d ∷ e ∷ t) = pair (packed (value_of c) (value_of d) (value_of e)) (image_of t)
