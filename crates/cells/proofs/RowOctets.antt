-- The octets of a row: what they say, whatever follows them; how many they are; that octets which are whole are those of what
-- they say; and that a row begins with the octets of its first cells.
use Prim.Native.Nat.{ℕ, ◌+◌, ◌-◌, ◌*◌, ◌≤◌, ◌<◌}
use mathlib.Core.Path.{◌≡◌, refl, ap, sym, ◌∙◌}
use mathlib.Core.Bool.{true}
use mathlib.Core.List.{List, [], ◌++◌, append-nil, append_assoc}
use native.Mathlib.Omega.{arith}
use borrow.Author.Tests.{leb-true, le-leb, eqb-true}
use lib.Dec.{leb, eqb}
use lib.ListN.{length, take, drop, replicate, length-append, replicate-append-replicate}
use lib.Pow.{pow_pos}
use lib.Seq.{take_at}
use Rattle.lent.proofs.Bools.{and_both}
use Rattle.zone.specs.Alphabet.{every}
use Rattle.zone.specs.Octets.{is_octet, AreOctets}
use Rattle.zone.proofs.Every.{every_append, every_drop}
use Rattle.cells.specs.Bits.{put, gathered, octets, bits_at}
use Rattle.cells.specs.Cells.{Cell, put_row, octets_of, row_bits, rounded_up, values_at, row_end, spare_bits, is_whole_row}
use Rattle.cells.proofs.Gather.{length-gathered, length-put}
use Rattle.cells.proofs.BitsOfOctets.{bits_of, is_bit, put_bits, put_zeros, put_followed, length-bits, bits_append}
use Rattle.cells.proofs.BitsOfOctets.{drop_bits}
use Rattle.cells.proofs.OctetsOfBits.{bits_octets, octets_append, octets_bits, gathered_zeros}
use Rattle.cells.proofs.Fitting.{Fits, Sized, fits_sized, counts}
use Rattle.cells.proofs.Putting.{row_followed, row_bits_lem, length-row, row_append, row_tells}
use Rattle.cells.proofs.ReadingBack.{RowRead, row_read, row_fits, row_end_lem, row_there, number_read, number_there}

-- bits with those behind them, to the next octet
pub whole_octets : (n : ℕ) → n + spare_bits n ≡ 8 * rounded_up n
whole_octets n = omega arith

pub spare_few : (n : ℕ) → spare_bits n < 8
spare_few n = omega arith

pub no_bits : every is_bit [] ≡ true
unfolding every
no_bits = refl

-- the octets of bits are those of the bits with zero bits to the next octet
pub octets_filled : (b : List ℕ) → octets (b ++ put (spare_bits (length b)) 0 []) ≡ octets b
unfolding octets
octets_filled b =
    let m = spare_bits (length b) in
    ap (λ (l : List ℕ). gathered 0 0 (b ++ l)) (put_zeros m [] ∙ append-nil (replicate m 0))
    ∙ gathered_zeros (rounded_up (length b)) m 0 0 b (omega arith) (spare_few (length b)) (omega (arith, whole_octets (length b)))

pub length-octets : (b : List ℕ) → length (octets b) ≡ rounded_up (length b)
unfolding octets
length-octets b = length-gathered 0 0 b (omega arith) ∙ omega arith

-- and with more zero bits than that the first octets are the same
cut_behind : (b z more : List ℕ) (q : ℕ) → every is_bit (b ++ z) ≡ true → length (b ++ z) ≡ 8 * q → octets (b ++ z) ≡ octets b
    → length (octets b) ≡ q → take q (octets (b ++ (z ++ more))) ≡ octets b
cut_behind b z more q e h same long =
    ap (λ (l : List ℕ). take q (octets l)) (sym (append_assoc b z more))
    ∙ ap (take q) (octets_append q (b ++ z) more e h ∙ ap (λ (l : List ℕ). l ++ octets more) same)
    ∙ take_at (octets b) (octets more) q long

zeros_parted : (j m : ℕ) → j ≤ m → replicate {A = ℕ} m 0 ≡ put j 0 [] ++ replicate (m - j) 0
zeros_parted j m h =
    let same : j + (m - j) ≡ m = omega arith in
    rw (put_zeros j [], append-nil, replicate-append-replicate, same)

pub octets_cut : (b : List ℕ) (m : ℕ) → every is_bit b ≡ true → spare_bits (length b) ≤ m
    → take (rounded_up (length b)) (octets (b ++ replicate m 0)) ≡ octets b
octets_cut b m e h =
    let j = spare_bits (length b) in
    rw (zeros_parted j m h)
    (cut_behind b (put j 0 []) (replicate (m - j) 0) (rounded_up (length b))
    (every_append is_bit b (put j 0 []) e (put_bits j 0 [] no_bits))
    (length-append b (put j 0 []) ∙ omega (arith, length-put j 0 [], whole_octets (length b))) (octets_filled b)
    (length-octets b))

-- ---- written

module _ (cs : List Cell) (vs : List (List ℕ)) (z : Sized cs vs) where
  row_long : length (put_row cs vs []) ≡ row_bits cs (counts cs vs)
  row_long = length-row cs vs [] z ∙ omega arith

  pub length_octets_of : length (octets_of cs vs) ≡ rounded_up (row_bits cs (counts cs vs))
  unfolding octets_of
  length_octets_of = length-octets (put_row cs vs []) ∙ ap (λ (n : ℕ). rounded_up n) row_long

module _ (cs : List Cell) (vs : List (List ℕ)) (f : Fits cs vs) where
  abbrev bits : ℕ
  bits = row_bits cs (counts cs vs)

  sized : Sized cs vs
  sized = fits_sized cs vs f

  octets_of_filled : octets_of cs vs ≡ octets (put_row cs vs (put (spare_bits bits) 0 []))
  unfolding octets_of
  octets_of_filled =
      let e : spare_bits (length (put_row cs vs [])) ≡ spare_bits bits = ap (λ (n : ℕ). spare_bits n) (row_long cs vs sized) in
      sym (ap octets (sym (row_followed cs vs [] (put (spare_bits bits) 0 []))
      ∙ ap (λ (n : ℕ). put_row cs vs [] ++ put n 0 []) (sym e)) ∙ octets_filled (put_row cs vs []))

  bits_octets_of : bits_of (octets_of cs vs) ≡ put_row cs vs (put (spare_bits bits) 0 [])
  bits_octets_of =
      let b = put_row cs vs (put (spare_bits bits) 0 []) in
      let long : length b ≡ 8 * rounded_up bits =
      length-row cs vs (put (spare_bits bits) 0 []) sized ∙ omega (arith, length-put (spare_bits bits) 0 [], whole_octets bits) in
      ap bits_of octets_of_filled
      ∙ bits_octets (rounded_up bits) b (row_bits_lem cs vs _ (put_bits (spare_bits bits) 0 [] no_bits)) long

  module _ (rest : List ℕ) where
    abbrev s : List ℕ
    s = octets_of cs vs ++ rest

    bits_there : bits_of s ≡ put_row cs vs (put (spare_bits bits) 0 (bits_of rest))
    bits_there =
        bits_append (octets_of cs vs) rest ∙ ap (λ (l : List ℕ). l ++ bits_of rest) bits_octets_of
        ∙ row_followed cs vs (put (spare_bits bits) 0 []) (bits_of rest)
        ∙ ap (put_row cs vs) (put_followed (spare_bits bits) 0 [] (bits_of rest))

    read : RowRead cs vs (put (spare_bits bits) 0 (bits_of rest)) s 0
    read = row_read cs vs (put (spare_bits bits) 0 (bits_of rest)) s 0 f bits_there

    -- the octets of a row, followed by anything, say its values
    pub octets_say : values_at cs (octets_of cs vs ++ rest) 0 ≡ vs
    octets_say = read.values_read

    pub octets_end : row_end cs (octets_of cs vs ++ rest) 0 ≡ row_bits cs (counts cs vs)
    octets_end = read.end_read ∙ omega arith

    -- and are whole
    pub octets_whole : is_whole_row cs (octets_of cs vs ++ rest) ≡ true
    unfolding is_whole_row
    octets_whole =
        let long : rounded_up bits ≤ length s = rw (length-append (octets_of cs vs) rest)
        (omega (arith, length_octets_of cs vs sized)) in
        let there : drop bits (bits_of s) ≡ put (spare_bits bits) 0 (bits_of rest) = rw octets_end at read.rest_read in
        let zeros : bits_at s bits (spare_bits bits) ≡ 0 =
        number_read s bits (spare_bits bits) 0 (bits_of rest) (pow_pos (spare_bits bits)) there in
        rw (octets_end, zeros, le-leb (rounded_up bits) (length s) long)

-- values that fit are told by their octets
pub octets_tell : (cs : List Cell) (u v : List (List ℕ)) → Fits cs u → Fits cs v → octets_of cs u ≡ octets_of cs v → u ≡ v
octets_tell cs u v f g e =
    (row_tells cs u v _ _ f g (sym (bits_octets_of cs u f) ∙ ap bits_of e ∙ bits_octets_of cs v g)).0

-- ---- read

pub record Whole (cs : List Cell) (s : List ℕ) : Type 0 where
  pub long : rounded_up (row_end cs s 0) ≤ length s
  pub zeros : bits_at s (row_end cs s 0) (spare_bits (row_end cs s 0)) ≡ 0

pub whole_told : (cs : List Cell) (s : List ℕ) → is_whole_row cs s ≡ true → Whole cs s
unfolding is_whole_row
whole_told cs s e =
    let n = row_end cs s 0 in
    let both = and_both (leb (rounded_up n) (length s)) (eqb (bits_at s n (spare_bits n)) 0) e in
    record {
      long = leb-true (rounded_up n) (length s) both.0;
      zeros = eqb-true (bits_at s n (spare_bits n)) 0 both.1;
    }

-- the octets of what a range says are as many as it takes
pub whole_length : (cs : List Cell) (s : List ℕ) → length (octets_of cs (values_at cs s 0)) ≡ rounded_up (row_end cs s 0)
whole_length cs s =
    let end : row_bits cs (counts cs (values_at cs s 0)) ≡ row_end cs s 0 = sym (row_end_lem cs s 0 ∙ omega arith) in
    length_octets_of cs (values_at cs s 0) (fits_sized cs (values_at cs s 0) (row_fits cs s 0)) ∙ ap (λ (n : ℕ). rounded_up n) end

-- octets that are whole are those of what they say, and then the rest
pub whole_is : (cs : List Cell) (s : List ℕ) → Whole cs s → AreOctets s
    → s ≡ octets_of cs (values_at cs s 0) ++ drop (rounded_up (row_end cs s 0)) s
whole_is cs s h small =
    let vs = values_at cs s 0 in
    let n = row_end cs s 0 in
    let m = spare_bits n in
    let rest = drop (rounded_up n) s in
    let b = put_row cs vs (put m 0 []) in
    let all : n + m ≡ 8 * rounded_up n = whole_octets n in
    let room : n + m ≤ length (bits_of s) = rw (length-bits s) (omega (arith, h.long)) in
    let behind : drop (n + m) (bits_of s) ≡ bits_of rest = ap (λ (i : ℕ). drop i (bits_of s)) all ∙ drop_bits (rounded_up n) s in
    let spare : put m 0 (bits_of rest) ≡ drop n (bits_of s) =
    rw (h.zeros, behind) at (number_there s n m room) in
    let parts : b ++ bits_of rest ≡ bits_of s =
    row_followed cs vs (put m 0 []) (bits_of rest) ∙ ap (put_row cs vs) (put_followed m 0 [] (bits_of rest) ∙ spare)
    ∙ row_there cs s 0 (omega arith) in
    let end : row_bits cs (counts cs vs) ≡ n = sym (row_end_lem cs s 0 ∙ omega arith) in
    let long : length b ≡ 8 * rounded_up n = length-row cs vs (put m 0 []) (fits_sized cs vs (row_fits cs s 0))
    ∙ omega (arith, length-put m 0 []) in
    let front : octets b ≡ octets_of cs vs = sym (rw end at (octets_of_filled cs vs (row_fits cs s 0))) in
    sym (octets_bits s small) ∙ ap octets (sym parts)
    ∙ octets_append (rounded_up n) b (bits_of rest) (row_bits_lem cs vs _ (put_bits m 0 [] no_bits)) long
    ∙ ap (λ (l : List ℕ). octets b ++ l) (octets_bits rest (every_drop is_octet (rounded_up n) s small))
    ∙ ap (λ (l : List ℕ). l ++ rest) front

-- ---- the first cells

module _ (a b : List Cell) (u v : List (List ℕ)) (q : ℕ) (z : Sized a u) (e : row_bits a (counts a u) ≡ 8 * q) where
  pub octets_begin : take q (octets_of (a ++ b) (u ++ v)) ≡ octets_of a u
  unfolding octets_of
  octets_begin =
      let t = put_row b v [] in
      let long : length (put_row a u []) ≡ 8 * q = row_long a u z ∙ e in
      let l : length (octets (put_row a u [])) ≡ q = length_octets_of a u z ∙ omega arith in
      ap (λ (x : List ℕ). take q (octets x)) (row_append a b u v [] z ∙ sym (row_followed a u [] t))
      ∙ ap (take q) (octets_append q (put_row a u []) t (row_bits_lem a u [] no_bits) long)
      ∙ take_at (octets (put_row a u [])) (octets t) q l
