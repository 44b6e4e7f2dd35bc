-- A row read from bits: what was put is read, and what is read, put again, is the bits that were read.
use Prim.Native.Nat.{ℕ, zero, suc, ◌+◌, ◌*◌, ◌^◌, ◌≤◌, ◌<◌}
use mathlib.Core.Path.{◌≡◌, refl, ap, sym, ◌∙◌}
use mathlib.Core.Bool.{true}
use mathlib.Core.List.{List, [], ◌∷◌}
use native.Mathlib.Nat.{mod-eq_of_lt}
use native.Mathlib.Omega.{arith}
use borrow.Author.Tests.{lt-ltb, ltb-true}
use lib.ListN.{length, drop, length-drop, take-append-drop}
use lib.Seq.{drop-drop}
use Rattle.lent.proofs.Bools.{and_both}
use Rattle.zone.specs.Alphabet.{every}
use Rattle.zone.proofs.Every.{every_drop}
use Rattle.cells.specs.Bits.{put, bits_at}
use Rattle.cells.specs.Cells.{Cell, fixed, counted, put_all, put_cell, put_row, row_bits}
use Rattle.cells.specs.Cells.{numbers_at, value_at, cell_end, values_at, row_end}
use Rattle.cells.proofs.BitsOfOctets.{bits_of, worth, number_place_lem, worth_put, drop-put, is_bit, bits_of_lem, put_worth}
use Rattle.cells.proofs.Fitting.{is_held, FitsCell, Fits, counts}
use Rattle.cells.proofs.Shifts.{bits_below}

-- ---- numbers

pub length-numbers : (s : List ℕ) (k n w : ℕ) → length (numbers_at s k n w) ≡ n
unfolding numbers_at
length-numbers s k zero w = refl
length-numbers s k (suc n) w = ap suc (length-numbers s (k + w) n w)

pub numbers_held : (s : List ℕ) (k n w : ℕ) → every (is_held w) (numbers_at s k n w) ≡ true
unfolding numbers_at every is_held
numbers_held s k zero w = refl
numbers_held s k (suc n) w = rw (lt-ltb (bits_at s k w) (2 ^ w) (bits_below s k w), numbers_held s (k + w) n w)

module _ (s : List ℕ) where
  -- what was put is read, and what follows it stands behind it

  pub next_put : (k w v : ℕ) (t : List ℕ) → drop k (bits_of s) ≡ put w v t → drop (k + w) (bits_of s) ≡ t
  next_put k w v t e = sym (drop-drop w k (bits_of s)) ∙ ap (drop w) e ∙ drop-put w v t

  pub number_read : (k w v : ℕ) (t : List ℕ) → v < 2 ^ w → drop k (bits_of s) ≡ put w v t → bits_at s k w ≡ v
  number_read k w v t h e = number_place_lem s w k ∙ ap (worth w) e ∙ worth_put w v t ∙ mod-eq_of_lt h

  -- what is read, put again, is the bits that were read
  pub number_there : (k w : ℕ) → k + w ≤ length (bits_of s)
      → put w (bits_at s k w) (drop (k + w) (bits_of s)) ≡ drop k (bits_of s)
  number_there k w h =
      let b = drop k (bits_of s) in
      let room : w ≤ length b = rw (length-drop k (bits_of s)) (omega arith) in
      rw (number_place_lem s w k, ← drop-drop w k (bits_of s))
      (put_worth w b (drop w b) (every_drop is_bit k (bits_of s) (bits_of_lem s)) room ∙ take-append-drop w b)

pub numbers_read : (s : List ℕ) (k w : ℕ) (v t : List ℕ) → every (is_held w) v ≡ true → drop k (bits_of s) ≡ put_all w v t
    → (numbers_at s k (length v) w ≡ v) × (drop (k + w * length v) (bits_of s) ≡ t)
unfolding numbers_at put_all every is_held
numbers_read s k w [] t p e = let same : k + w * 0 ≡ k = omega arith in (refl, rw same e)
numbers_read s k w (x ∷ v) t p e =
    let both = and_both (is_held w x) (every (is_held w) v) p in
    let one = number_read s k w x (put_all w v t) (ltb-true x (2 ^ w) both.0) e in
    let more = numbers_read s (k + w) w v t both.1 (next_put s k w x (put_all w v t) e) in
    let same : k + w * suc (length v) ≡ k + w + w * length v = omega arith in
    (rw (one, more.0), rw same more.1)

pub numbers_there : (s : List ℕ) (k n w : ℕ) → k + w * n ≤ length (bits_of s)
    → put_all w (numbers_at s k n w) (drop (k + w * n) (bits_of s)) ≡ drop k (bits_of s)
unfolding numbers_at put_all
numbers_there s k zero w h = let same : k + w * 0 ≡ k = omega arith in rw same
numbers_there s k (suc n) w h =
    let same : k + w * suc n ≡ k + w + w * n = omega arith in
    rw (same, numbers_there s (k + w) n w (omega arith)) (number_there s k w (omega arith))

-- ---- one cell

module _ (s : List ℕ) (k : ℕ) where
  cell_read : (c : Cell) (v t : List ℕ) → FitsCell c v → drop k (bits_of s) ≡ put_cell c v t
      → (value_at c s k ≡ v) × (drop (cell_end c s k) (bits_of s) ≡ t)
  unfolding put_cell
  cell_read (fixed n w) v t f e = rw f.0 at (numbers_read s k w v t f.1 e)
  cell_read (counted j w) v t f e =
      let one = number_read s k j (length v) (put_all w v t) f.0 e in
      let more = numbers_read s (k + j) w v t f.1 (next_put s k j (length v) (put_all w v t) e) in
      rw one more

  cell_there : (c : Cell) → cell_end c s k ≤ length (bits_of s)
      → put_cell c (value_at c s k) (drop (cell_end c s k) (bits_of s)) ≡ drop k (bits_of s)
  unfolding put_cell
  cell_there (fixed n w) h = numbers_there s k n w h
  cell_there (counted j w) h =
      rw (length-numbers s (k + j) (bits_at s k j) w, numbers_there s (k + j) (bits_at s k j) w h)
      (number_there s k j (omega arith))

  cell_fits : (c : Cell) → FitsCell c (value_at c s k)
  cell_fits (fixed n w) = (length-numbers s k n w, numbers_held s k n w)
  cell_fits (counted j w) =
      (rw (length-numbers s (k + j) (bits_at s k j) w) (bits_below s k j), numbers_held s (k + j) (bits_at s k j) w)

  end_behind : (c : Cell) → k ≤ cell_end c s k
  end_behind (fixed n w) = omega arith
  end_behind (counted j w) = omega arith

-- ---- a row

-- the values, where they end, and what follows
pub record RowRead (cs : List Cell) (vs : List (List ℕ)) (t s : List ℕ) (k : ℕ) : Type 0 where
  pub values_read : values_at cs s k ≡ vs
  pub rest_read : drop (row_end cs s k) (bits_of s) ≡ t
  pub end_read : row_end cs s k ≡ k + row_bits cs (counts cs vs)

end_more : (c : Cell) (cs : List Cell) (v : List ℕ) (vs : List (List ℕ)) (s : List ℕ) (k : ℕ) → FitsCell c v
    → value_at c s k ≡ v → cell_end c s k + row_bits cs (counts cs vs) ≡ k + row_bits (c ∷ cs) (counts (c ∷ cs) (v ∷ vs))
end_more (fixed n w) cs v vs s k f e = omega arith
end_more (counted j w) cs v vs s k f e =
    let l : bits_at s k j ≡ length v = sym (length-numbers s (k + j) (bits_at s k j) w) ∙ ap length e in
    rw l (omega arith)

pub row_read : (cs : List Cell) (vs : List (List ℕ)) (t s : List ℕ) (k : ℕ) → Fits cs vs → drop k (bits_of s) ≡ put_row cs vs t
    → RowRead cs vs t s k
unfolding put_row
row_read [] [] t s k f e = record { values_read = refl; rest_read = e; end_read = omega arith }
row_read [] (v ∷ vs) t s k f e = absurd f
row_read (c ∷ cs) [] t s k f e = absurd f
row_read (c ∷ cs) (v ∷ vs) t s k f e =
    let one = cell_read s k c v (put_row cs vs t) f.0 e in
    let more = row_read cs vs t s (cell_end c s k) f.1 one.1 in
    record {
      values_read = rw (one.0, more.values_read);
      rest_read = more.rest_read;
      end_read = more.end_read ∙ end_more c cs v vs s k f.0 one.0;
    }

pub row_fits : (cs : List Cell) (s : List ℕ) (k : ℕ) → Fits cs (values_at cs s k)
row_fits [] s k = tt
row_fits (c ∷ cs) s k = (cell_fits s k c, row_fits cs s (cell_end c s k))

pub row_end_lem : (cs : List Cell) (s : List ℕ) (k : ℕ) → row_end cs s k ≡ k + row_bits cs (counts cs (values_at cs s k))
row_end_lem [] s k = omega arith
row_end_lem (c ∷ cs) s k =
    let e = cell_end c s k in
    row_end_lem cs s e ∙ end_more c cs (value_at c s k) (values_at cs s e) s k (cell_fits s k c) refl

pub row_behind : (cs : List Cell) (s : List ℕ) (k : ℕ) → k ≤ row_end cs s k
row_behind [] s k = omega arith
row_behind (c ∷ cs) s k = omega (arith, end_behind s k c, row_behind cs s (cell_end c s k))

pub row_there : (cs : List Cell) (s : List ℕ) (k : ℕ) → row_end cs s k ≤ length (bits_of s)
    → put_row cs (values_at cs s k) (drop (row_end cs s k) (bits_of s)) ≡ drop k (bits_of s)
unfolding put_row
row_there [] s k h = refl
row_there (c ∷ cs) s k h =
    rw (row_there cs s (cell_end c s k) h) (cell_there s k c (omega (arith, row_behind cs s (cell_end c s k))))
