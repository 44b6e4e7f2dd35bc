-- The values of a row put into bits: what follows them, that they are bits, how many, rows one behind the other, and that the
-- bits tell the values.
use Prim.Native.Nat.{ℕ, ◌+◌, ◌*◌, ◌^◌, ◌<◌}
use mathlib.Core.Path.{◌≡◌, refl, ap, sym, ◌∙◌}
use mathlib.Core.Bool.{true}
use mathlib.Core.List.{List, [], ◌∷◌, ◌++◌}
use native.Mathlib.Nat.{mod-eq_of_lt}
use native.Mathlib.Omega.{arith}
use borrow.Author.Tests.{ltb-true}
use lib.ListN.{length, drop}
use Rattle.lent.proofs.Bools.{and_both}
use Rattle.zone.specs.Alphabet.{every}
use Rattle.cells.specs.Bits.{put}
use Rattle.cells.specs.Cells.{Cell, fixed, counted, put_all, put_cell, put_row, row_bits}
use Rattle.cells.proofs.Gather.{length-put}
use Rattle.cells.proofs.BitsOfOctets.{is_bit, put_bits, put_followed, worth, worth_put, drop-put}
use Rattle.cells.proofs.Fitting.{is_held, FitsCell, Fits, Sized, counts}

-- ---- numbers of one width

module _ (w : ℕ) where
  pub all_append : (a b t : List ℕ) → put_all w (a ++ b) t ≡ put_all w a (put_all w b t)
  unfolding put_all
  all_append [] b t = refl
  all_append (x ∷ a) b t = ap (put w x) (all_append a b t)

  pub all_followed : (v t u : List ℕ) → put_all w v t ++ u ≡ put_all w v (t ++ u)
  unfolding put_all
  all_followed [] t u = refl
  all_followed (x ∷ v) t u = put_followed w x (put_all w v t) u ∙ ap (put w x) (all_followed v t u)

  pub all_bits : (v t : List ℕ) → every is_bit t ≡ true → every is_bit (put_all w v t) ≡ true
  unfolding put_all
  all_bits [] t e = e
  all_bits (x ∷ v) t e = put_bits w x (put_all w v t) (all_bits v t e)

  pub length-all : (v t : List ℕ) → length (put_all w v t) ≡ w * length v + length t
  unfolding put_all
  length-all [] t = omega arith
  length-all (x ∷ v) t = rw (length-put w x (put_all w v t), length-all v t) (omega arith)

-- ---- one cell

cell_followed : (c : Cell) (v t u : List ℕ) → put_cell c v t ++ u ≡ put_cell c v (t ++ u)
unfolding put_cell
cell_followed (fixed n w) v t u = all_followed w v t u
cell_followed (counted k w) v t u =
    put_followed k (length v) (put_all w v t) u ∙ ap (put k (length v)) (all_followed w v t u)

cell_bits : (c : Cell) (v t : List ℕ) → every is_bit t ≡ true → every is_bit (put_cell c v t) ≡ true
unfolding put_cell
cell_bits (fixed n w) v t e = all_bits w v t e
cell_bits (counted k w) v t e = put_bits k (length v) (put_all w v t) (all_bits w v t e)

-- ---- a row

pub row_followed : (cs : List Cell) (vs : List (List ℕ)) (t u : List ℕ) → put_row cs vs t ++ u ≡ put_row cs vs (t ++ u)
unfolding put_row
row_followed [] vs t u = refl
row_followed (c ∷ cs) [] t u = refl
row_followed (c ∷ cs) (v ∷ vs) t u = cell_followed c v (put_row cs vs t) u ∙ ap (put_cell c v) (row_followed cs vs t u)

pub row_bits_lem : (cs : List Cell) (vs : List (List ℕ)) (t : List ℕ) → every is_bit t ≡ true
    → every is_bit (put_row cs vs t) ≡ true
unfolding put_row
row_bits_lem [] vs t e = e
row_bits_lem (c ∷ cs) [] t e = e
row_bits_lem (c ∷ cs) (v ∷ vs) t e = cell_bits c v (put_row cs vs t) (row_bits_lem cs vs t e)

pub length-row : (cs : List Cell) (vs : List (List ℕ)) (t : List ℕ) → Sized cs vs
    → length (put_row cs vs t) ≡ row_bits cs (counts cs vs) + length t
unfolding put_row put_cell
length-row [] [] t f = omega arith
length-row [] (v ∷ vs) t f = absurd f
length-row (c ∷ cs) [] t f = absurd f
length-row (fixed n w ∷ cs) (v ∷ vs) t f =
    length-all w v (put_row cs vs t) ∙ rw (f.0, length-row cs vs t f.1) (omega arith)
length-row (counted k w ∷ cs) (v ∷ vs) t f =
    length-put k (length v) (put_all w v (put_row cs vs t))
    ∙ rw (length-all w v (put_row cs vs t), length-row cs vs t f.1) (omega arith)

-- one row behind another
pub row_append : (a b : List Cell) (u v : List (List ℕ)) (t : List ℕ) → Sized a u
    → put_row (a ++ b) (u ++ v) t ≡ put_row a u (put_row b v t)
unfolding put_row
row_append [] b [] v t f = refl
row_append [] b (x ∷ u) v t f = absurd f
row_append (c ∷ a) b [] v t f = absurd f
row_append (c ∷ a) b (x ∷ u) v t f = ap (put_cell c x) (row_append a b u v t f.1)

-- ---- equal bits give equal values and equal rests

put_tells : (w x y : ℕ) (t u : List ℕ) → x < 2 ^ w → y < 2 ^ w → put w x t ≡ put w y u → (x ≡ y) × (t ≡ u)
put_tells w x y t u h k e = (
  sym (worth_put w x t ∙ mod-eq_of_lt h) ∙ ap (worth w) e ∙ worth_put w y u ∙ mod-eq_of_lt k,
  sym (drop-put w x t) ∙ ap (drop w) e ∙ drop-put w y u,
)

all_tells : (w : ℕ) (a b t u : List ℕ) → length a ≡ length b → every (is_held w) a ≡ true → every (is_held w) b ≡ true
    → put_all w a t ≡ put_all w b u → (a ≡ b) × (t ≡ u)
unfolding put_all every is_held
all_tells w [] [] t u l p q e = (refl, e)
all_tells w [] (y ∷ b) t u l p q e = absurd (omega arith)
all_tells w (x ∷ a) [] t u l p q e = absurd (omega arith)
all_tells w (x ∷ a) (y ∷ b) t u l p q e =
    let one = and_both (is_held w x) (every (is_held w) a) p in
    let two = and_both (is_held w y) (every (is_held w) b) q in
    let first = put_tells w x y (put_all w a t) (put_all w b u) (ltb-true x (2 ^ w) one.0) (ltb-true y (2 ^ w) two.0) e in
    let more = all_tells w a b t u (omega arith) one.1 two.1 first.1 in
    (rw (first.0, more.0), more.1)

cell_tells : (c : Cell) (a b t u : List ℕ) → FitsCell c a → FitsCell c b → put_cell c a t ≡ put_cell c b u → (a ≡ b) × (t ≡ u)
unfolding put_cell
cell_tells (fixed n w) a b t u f g e = all_tells w a b t u (f.0 ∙ sym g.0) f.1 g.1 e
cell_tells (counted k w) a b t u f g e =
    let count = put_tells k (length a) (length b) (put_all w a t) (put_all w b u) f.0 g.0 e in
    all_tells w a b t u count.0 f.1 g.1 count.1

pub row_tells : (cs : List Cell) (a b : List (List ℕ)) (t u : List ℕ) → Fits cs a → Fits cs b → put_row cs a t ≡ put_row cs b u
    → (a ≡ b) × (t ≡ u)
unfolding put_row
row_tells [] [] [] t u f g e = (refl, e)
row_tells [] [] (y ∷ b) t u f g e = absurd g
row_tells [] (x ∷ a) b t u f g e = absurd f
row_tells (c ∷ cs) [] b t u f g e = absurd f
row_tells (c ∷ cs) (x ∷ a) [] t u f g e = absurd g
row_tells (c ∷ cs) (x ∷ a) (y ∷ b) t u f g e =
    let one = cell_tells c x y (put_row cs a t) (put_row cs b u) f.0 g.0 e in
    let more = row_tells cs a b t u f.1 g.1 one.1 in
    (rw (one.0, more.0), more.1)
