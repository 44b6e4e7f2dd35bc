-- The parts of a text that document 01 names under "The text", Layouts, and the issuer's own data of document 02, request
-- 2026-06, which stand in one of them.
use Rattle.std.specs.Prelude.{ℕ, Bool, false, ◌||◌, List, [], ◌∷◌, eqb}

pub data Part : Type 0 where
  code state number number_check optional birth birth_check sex expiry expiry_check nationality : Part
  optional2 composite name personal personal_check own : Part

-- a number for each, by which two are compared
abbrev pub rank : Part → ℕ
rank code = 0
rank state = 1
rank number = 2
rank number_check = 3
rank optional = 4
rank birth = 5
rank birth_check = 6
rank sex = 7
rank expiry = 8
rank expiry_check = 9
rank nationality = 10
rank optional2 = 11
rank composite = 12
rank name = 13
rank personal = 14
rank personal_check = 15
rank own = 16

abbrev pub same : Part → Part → Bool
same x y = eqb (rank x) (rank y)

unfoldable pub among : Part → List Part → Bool
among x [] = false
among x (y ∷ ys) = same x y || among x ys
