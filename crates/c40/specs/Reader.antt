-- Reading C40 (source 002, annex C, "Decoding"): exactly the images are read. FE stands in the last pair only, 0 as a third value
-- in the last pair only, every other value is 3 to 39.
use Rattle.std.specs.Prelude.{ℕ, ◌+◌, ◌-◌, ◌*◌, ◌/◌, ◌%◌, Bool, cond, ◌&&◌, List, [], ◌∷◌, ◌++◌, eqb}
use Rattle.c40.specs.declared.pair.Triple.{Triple}
use Rattle.c40.specs.Values.{is_c40, is_value, character_of}

-- the text whose image it is, or that it is none
pub data Reading : Type 0 where
  characters : List ℕ → Reading
  no_image : Reading

-- the number in two octets
unfoldable pub number_of : ℕ → ℕ → ℕ
number_of x y = 256 * x + y

-- the three values in a number
unfoldable pub values_of : ℕ → Triple
values_of n = record { first = (n - 1) / 1600; second = (n - 1) % 1600 / 40; third = (n - 1) % 1600 % 40 }

-- a pair of three characters
unfoldable pub is_three : Triple → Bool
is_three v = is_value v.first && (is_value v.second && is_value v.third)

unfoldable pub three : Triple → List ℕ
three v = character_of v.first ∷ character_of v.second ∷ character_of v.third ∷ []

-- a pair of two
unfoldable pub is_two : Triple → Bool
is_two v = is_value v.first && (is_value v.second && eqb v.third 0)

unfoldable pub two : Triple → List ℕ
two v = character_of v.first ∷ character_of v.second ∷ []

-- a pair of one: FE, and the character's code plus one
unfoldable pub is_one : ℕ → ℕ → Bool
is_one x y = eqb x 0xFE && is_c40 (y - 1)

unfoldable pub one : ℕ → List ℕ
one y = (y - 1) ∷ []

-- characters before those that follow
unfoldable pub before : List ℕ → Reading → Reading
before t (characters u) = characters (t ++ u)
before t no_image = no_image

-- a pair of two or of one is the last
unfoldable pub last_pair : (x y : ℕ) → List ℕ → Reading
last_pair x y [] =
    cond (is_two (values_of (number_of x y))) (characters (two (values_of (number_of x y))))
    (cond (is_one x y) (characters (one y)) no_image)
last_pair x y (z ∷ s) = no_image

unfoldable pub read_c40 : List ℕ → Reading
read_c40 [] = characters []
read_c40 (x ∷ []) = no_image
read_c40 (x ∷ y ∷ s) =
    cond (is_three (values_of (number_of x y))) (before (three (values_of (number_of x y))) (read_c40 s)) (last_pair x y s)
