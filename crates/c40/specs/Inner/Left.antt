-- What is counted of a reading, and what is read from a place on, behind n characters that were read before it.
use Rattle.std.specs.Prelude.{ℕ, ◌+◌, ◌≤◌, Bool, true, false, cond, ◌&&◌, List, [], ◌∷◌, leb, length, Option, Some, None}
use Rattle.c40.specs.declared.pair.Triple.{Triple}
use Rattle.c40.specs.Reader.{Reading, characters, no_image, number_of, values_of, is_three}

-- how many characters, where it is an image and there is room for them
unfoldable pub answered : Reading → ℕ → Option ℕ
answered (characters t) room = cond (leb (length t) room) (Some (length t)) None
answered no_image room = None

-- the same from a place on: how many that makes behind n others
unfoldable pub fitted : ℕ → ℕ → Reading → Option ℕ
fitted room n (characters t) = cond (leb (n + length t) room) (Some (n + length t)) None
fitted room n no_image = None

-- the characters that were read; none where it is no image
unfoldable pub text_of : Reading → List ℕ
text_of (characters t) = t
text_of no_image = []

-- pairs of three characters and nothing else
unfoldable pub all_three : List ℕ → Bool
all_three [] = true
all_three (x ∷ []) = false
all_three (x ∷ y ∷ s) = is_three (values_of (number_of x y)) && all_three s

-- no value in two octets is above 40
pub record Small (v : Triple) : Type 0 where
  pub first : v.first ≤ 40
  pub second : v.second ≤ 40
  pub third : v.third ≤ 40
