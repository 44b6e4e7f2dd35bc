-- Cells of bits, one behind the other: document 01's entry is a row of them. What a cell says is always a list of numbers.
use Rattle.std.specs.Prelude.{ℕ, zero, suc, ◌+◌, ◌-◌, ◌*◌, ◌/◌, Bool, ◌&&◌, List, [], ◌∷◌, eqb, leb, length}
use Rattle.cells.specs.Bits.{put, octets, bits_at}

pub data Cell : Type 0 where
  -- n numbers of w bits each
  fixed : (n w : ℕ) → Cell
  -- how many they are, in k bits, and then so many numbers of w bits each
  counted : (k w : ℕ) → Cell

-- ---- written

-- numbers of w bits each, and then what follows
unfoldable pub put_all : (w : ℕ) → List ℕ → List ℕ → List ℕ
put_all w [] t = t
put_all w (x ∷ v) t = put w x (put_all w v t)

unfoldable pub put_cell : Cell → List ℕ → List ℕ → List ℕ
put_cell (fixed n w) v t = put_all w v t
put_cell (counted k w) v t = put k (length v) (put_all w v t)

-- the values of a row, each in its cell, and then what follows
unfoldable pub put_row : List Cell → List (List ℕ) → List ℕ → List ℕ
put_row [] vs t = t
put_row (c ∷ cs) [] t = t
put_row (c ∷ cs) (v ∷ vs) t = put_cell c v (put_row cs vs t)

-- their octets, with zero bits to the next octet
unfoldable pub octets_of : List Cell → List (List ℕ) → List ℕ
octets_of cs vs = octets (put_row cs vs [])

-- the bits of a row whose counted cells have these many numbers, one after the other
abbrev pub row_bits : List Cell → List ℕ → ℕ
row_bits [] ns = 0
row_bits (fixed n w ∷ cs) ns = w * n + row_bits cs ns
row_bits (counted k w ∷ cs) [] = k + row_bits cs []
row_bits (counted k w ∷ cs) (n ∷ ns) = k + w * n + row_bits cs ns

-- bits rounded up to octets
abbrev pub rounded_up : ℕ → ℕ
rounded_up n = (n + 7) / 8

-- ---- read, from the k-th bit of a range on

-- n numbers of w bits each
unfoldable pub numbers_at : List ℕ → (k n w : ℕ) → List ℕ
numbers_at s k zero w = []
numbers_at s k (suc n) w = bits_at s k w ∷ numbers_at s (k + w) n w

abbrev pub value_at : Cell → List ℕ → ℕ → List ℕ
value_at (fixed n w) s k = numbers_at s k n w
value_at (counted j w) s k = numbers_at s (k + j) (bits_at s k j) w

-- where a cell ends
abbrev pub cell_end : Cell → List ℕ → ℕ → ℕ
cell_end (fixed n w) s k = k + w * n
cell_end (counted j w) s k = k + j + w * bits_at s k j

abbrev pub values_at : List Cell → List ℕ → ℕ → List (List ℕ)
values_at [] s k = []
values_at (c ∷ cs) s k = value_at c s k ∷ values_at cs s (cell_end c s k)

abbrev pub row_end : List Cell → List ℕ → ℕ → ℕ
row_end [] s k = k
row_end (c ∷ cs) s k = row_end cs s (cell_end c s k)

-- the bits behind so many, to the next octet
abbrev pub spare_bits : ℕ → ℕ
spare_bits n = 8 * rounded_up n - n

-- not cut off, and the spare bits zero
unfoldable pub is_whole_row : List Cell → List ℕ → Bool
is_whole_row cs s =
    leb (rounded_up (row_end cs s 0)) (length s) && eqb (bits_at s (row_end cs s 0) (spare_bits (row_end cs s 0))) 0
