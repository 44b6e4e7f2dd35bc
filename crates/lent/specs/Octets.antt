-- Octets that are compared, an octet among others, and the octets of what is printed.
use Rattle.std.specs.Prelude.{ℕ, Bool, true, false, ◌&&◌, ◌||◌, List, [], ◌∷◌, eqb}
use Prim.Native.Char.{code}
use Prim.Native.String as text
use Prim.Native.String.{String}

-- the same octets
unfoldable pub alike : List ℕ → List ℕ → Bool
alike [] [] = true
alike [] (d ∷ t) = false
alike (c ∷ s) [] = false
alike (c ∷ s) (d ∷ t) = eqb c d && alike s t

-- whether an octet stands among others
unfoldable pub stands : ℕ → List ℕ → Bool
stands c [] = false
stands c (d ∷ t) = eqb c d || stands c t

-- the octets of a text as the papers print it
unfoldable pub octets : String → List ℕ
octets text.[] = []
octets (text.◌∷◌ c s) = code c ∷ octets s
