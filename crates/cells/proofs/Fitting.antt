-- What fits a row of cells, and how many numbers its counted cells have.
use Prim.Native.Nat.{ℕ, ◌^◌, ◌<◌}
use mathlib.Core.Path.{◌≡◌}
use mathlib.Core.Bool.{Bool, true}
use mathlib.Core.List.{List, [], ◌∷◌, ◌++◌}
use lib.Dec.{ltb}
use lib.ListN.{length}
use Rattle.zone.specs.Alphabet.{every}
use Rattle.cells.specs.Cells.{Cell, fixed, counted}

-- w bits hold it
unfoldable pub is_held : (w x : ℕ) → Bool
is_held w x = ltb x (2 ^ w)

abbrev pub FitsCell : Cell → List ℕ → Type 0
FitsCell (fixed n w) v = (length v ≡ n) × (every (is_held w) v ≡ true)
FitsCell (counted k w) v = (length v < 2 ^ k) × (every (is_held w) v ≡ true)

-- a value for each cell, and each fits
abbrev pub Fits : List Cell → List (List ℕ) → Type 0
Fits [] [] = Unit
Fits [] (v ∷ vs) = ⊥
Fits (c ∷ cs) [] = ⊥
Fits (c ∷ cs) (v ∷ vs) = FitsCell c v × Fits cs vs

-- as many numbers as a fixed cell has
abbrev pub SizedCell : Cell → List ℕ → Type 0
SizedCell (fixed n w) v = length v ≡ n
SizedCell (counted k w) v = Unit

abbrev pub Sized : List Cell → List (List ℕ) → Type 0
Sized [] [] = Unit
Sized [] (v ∷ vs) = ⊥
Sized (c ∷ cs) [] = ⊥
Sized (c ∷ cs) (v ∷ vs) = SizedCell c v × Sized cs vs

sized_cell : (c : Cell) (v : List ℕ) → FitsCell c v → SizedCell c v
sized_cell (fixed n w) v f = f.0
sized_cell (counted k w) v f = tt

pub fits_sized : (cs : List Cell) (vs : List (List ℕ)) → Fits cs vs → Sized cs vs
fits_sized [] [] f = tt
fits_sized [] (v ∷ vs) f = absurd f
fits_sized (c ∷ cs) [] f = absurd f
fits_sized (c ∷ cs) (v ∷ vs) f = (sized_cell c v f.0, fits_sized cs vs f.1)

-- how many numbers the counted cells have
abbrev pub counts : List Cell → List (List ℕ) → List ℕ
counts [] vs = []
counts (fixed n w ∷ cs) [] = []
counts (fixed n w ∷ cs) (v ∷ vs) = counts cs vs
counts (counted k w ∷ cs) [] = []
counts (counted k w ∷ cs) (v ∷ vs) = length v ∷ counts cs vs

-- one row behind another
pub fits_append : (a b : List Cell) (u v : List (List ℕ)) → Fits a u → Fits b v → Fits (a ++ b) (u ++ v)
fits_append [] b [] v f g = g
fits_append [] b (x ∷ u) v f g = absurd f
fits_append (c ∷ a) b [] v f g = absurd f
fits_append (c ∷ a) b (x ∷ u) v f g = (f.0, fits_append a b u v f.1 g)

pub sized_append : (a b : List Cell) (u v : List (List ℕ)) → Sized a u → Sized b v → Sized (a ++ b) (u ++ v)
sized_append [] b [] v f g = g
sized_append [] b (x ∷ u) v f g = absurd f
sized_append (c ∷ a) b [] v f g = absurd f
sized_append (c ∷ a) b (x ∷ u) v f g = (f.0, sized_append a b u v f.1 g)
