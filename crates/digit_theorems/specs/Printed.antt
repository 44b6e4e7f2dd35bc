-- The two lists in characters, as docs/CHECK-DIGITS.md has them: two characters are a pair, a row has those of one lower one.
use Rattle.std.specs.Prelude.{ℕ, List, [], ◌∷◌, ◌++◌}
use Prim.Native.String.{String}
use Rattle.lent.specs.Octets.{octets}
use Rattle.digit_theorems.specs.Pairs.{Pair, pair_of}

unfoldable pub pairs_in : List ℕ → List Pair
pairs_in [] = []
pairs_in (c ∷ []) = []
pairs_in (c ∷ d ∷ s) = pair_of c d ∷ pairs_in s

unfoldable pub pairs_of : List String → List Pair
pairs_of [] = []
pairs_of (row ∷ rows) = pairs_in (octets row) ++ pairs_of rows

unfoldable pub one_place_pairs : List String
one_place_pairs =
    "<0<A<K<U" ∷ "0A0K0U" ∷ "1B1L1V" ∷ "2C2M2W" ∷ "3D3N3X" ∷ "4E4O4Y" ∷ "5F5P5Z" ∷ "6G6Q" ∷ "7H7R" ∷ "8I8S" ∷ "9J9T" ∷
    "AKAU" ∷ "BLBV" ∷ "CMCW" ∷ "DNDX" ∷ "EOEY" ∷ "FPFZ" ∷ "GQ" ∷ "HR" ∷ "IS" ∷ "JT" ∷ "KU" ∷ "LV" ∷ "MW" ∷ "NX" ∷ "OY" ∷
    "PZ" ∷ []

unfoldable pub neighbour_pairs : List String
neighbour_pairs =
    "<0<5<A<F<K<P<U<Z" ∷ "050A0F0K0P0U0Z" ∷ "161B1G1L1Q1V" ∷ "272C2H2M2R2W" ∷ "383D3I3N3S3X" ∷ "494E4J4O4T4Y" ∷
    "5A5F5K5P5U5Z" ∷ "6B6G6L6Q6V" ∷ "7C7H7M7R7W" ∷ "8D8I8N8S8X" ∷ "9E9J9O9T9Y" ∷ "AFAKAPAUAZ" ∷ "BGBLBQBV" ∷ "CHCMCRCW" ∷
    "DIDNDSDX" ∷ "EJEOETEY" ∷ "FKFPFUFZ" ∷ "GLGQGV" ∷ "HMHRHW" ∷ "INISIX" ∷ "JOJTJY" ∷ "KPKUKZ" ∷ "LQLV" ∷ "MRMW" ∷ "NSNX" ∷
    "OTOY" ∷ "PUPZ" ∷ "QV" ∷ "RW" ∷ "SX" ∷ "TY" ∷ "UZ" ∷ []
