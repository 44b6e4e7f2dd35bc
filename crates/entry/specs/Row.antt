-- The row of an entry: document 01, "The entry, most significant bit first", and document 02, request 2026-06. Every place and
-- every length follows from it.
use Rattle.std.specs.Prelude.{ℕ, suc, ◌+◌, ◌*◌, cond, List, [], ◌∷◌, ◌++◌, eqb}
use Rattle.zone.specs.Part as text
use Rattle.zone.specs.Part.{code, state, number, nationality, birth, sex, expiry, name, own}
use Rattle.cells.specs.Cells.{Cell, fixed, counted}

-- what a cell is for: the house, the form, or a field of the record, which is a part of a text
pub data Part : Type 0 where
  house form : Part
  field : text.Part → Part

-- a number for each, by which two are compared
abbrev pub rank : Part → ℕ
rank house = 0
rank form = 1
rank (field x) = suc (suc (text.rank x))

infix 70 ◌of◌
-- a part and its cell
pub data Place : Type 0 where
  ◌of◌ : Part → Cell → Place

-- "house 15 bits; form 3; state 18; number 132; birth 36; expiry 36: thirty bytes, the key"; a character is 6 bits
abbrev pub key : List Place
key =
    house of fixed 1 15 ∷ form of fixed 1 3 ∷ field state of fixed 3 6 ∷ field number of fixed 22 6 ∷ field birth of fixed 6 6
    ∷ field expiry of fixed 6 6 ∷ []

-- "then code 12, nationality 18, sex 2, name length 6, name", with "a 5-bit length and its m characters before the name length"
abbrev pub after_key : List Place
after_key =
    field code of fixed 2 6 ∷ field nationality of fixed 3 6 ∷ field sex of fixed 1 2 ∷ field own of counted 5 6
    ∷ field name of counted 6 6 ∷ []

abbrev pub row : List Place
row = key ++ after_key

abbrev pub cells : List Place → List Cell
cells [] = []
cells (x of c ∷ ps) = c ∷ cells ps

-- the value of a part among those of a row
abbrev pub value_in : List Place → List (List ℕ) → Part → List ℕ
value_in [] vs x = []
value_in (y of c ∷ ps) [] x = []
value_in (y of c ∷ ps) (v ∷ vs) x = cond (eqb (rank x) (rank y)) v (value_in ps vs x)

abbrev pub value_of : List (List ℕ) → Part → List ℕ
value_of vs x = value_in row vs x

-- the bits before a field, where all before it are of fixed widths
abbrev pub start_in : List Place → Part → ℕ
start_in [] x = 0
start_in (y of fixed n w ∷ ps) x = cond (eqb (rank x) (rank y)) 0 (w * n + start_in ps x)
start_in (y of counted k w ∷ ps) x = 0

abbrev pub start : text.Part → ℕ
start x = start_in row (field x)
