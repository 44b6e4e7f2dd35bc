-- The laws of `trimmed_length`: one character more at the end, and its bound.
use mathlib.Core.Path.{◌≡◌, refl, ap, sym, ◌∙◌}
use mathlib.Core.List.{List, [], ◌∷◌, ◌++◌}
use mathlib.Core.Bool.{Bool, true, false, cond, ◌&&◌, and-true, false≢true}
use Prim.Native.Nat.{ℕ, suc, ◌+◌, ◌≤◌, ◌<◌, zero, ◌-◌}
use native.Mathlib.Numerals.{add-one}
use native.Mathlib.Omega.{arith}
use lib.ListN.{length, take, drop, get_or, replicate, take-append-drop, drop_of_length-le}
use lib.Dec.{eqb, eqb-suc-zero}
use lib.Pointwise.{pointwise}
use lib.Seq.{take-suc, length-take-le, take-take, take_all, drop-cons}
use borrow.Author.Tests.{eqb-true}
use Rattle.zone.specs.Alphabet.{is_filler, filler, every}
use Rattle.zone.specs.Record.{trimmed_length, trimmed}
use Rattle.lent.proofs.Bools.{and_both}

-- behind anything, a filler changes nothing, and another character makes the whole count
pub trimmed_snoc : (s : List ℕ) (c : ℕ) → trimmed_length (s ++ (c ∷ [])) ≡ cond (is_filler c) (trimmed_length s) (suc (length s))
unfolding trimmed_length
trimmed_snoc [] c = single (is_filler c)
  where
    single : (b : Bool) → cond (b && true) 0 (suc 0) ≡ cond b 0 (suc 0)
    single true = refl
    single false = refl
trimmed_snoc (x ∷ s) c = rw (trimmed_snoc s c) (step (is_filler c) (is_filler x))
  where
    step : (b a : Bool)
        → cond (a && eqb (cond b (trimmed_length s) (suc (length s))) 0) 0 (suc (cond b (trimmed_length s) (suc (length s))))
        ≡ cond b (cond (a && eqb (trimmed_length s) 0) 0 (suc (trimmed_length s))) (suc (suc (length s)))
    step true a = refl
    step false true = rw (eqb-suc-zero (length s))
    step false false = refl

-- another character than a filler
trimmed_other : (s : List ℕ) (i : ℕ) → i < length s → is_filler (get_or s i 0) ≡ false → trimmed_length (take (i + 1) s) ≡ i + 1
trimmed_other s i h e =
    let k : i ≤ length s = omega arith in
    rw (add-one i, take-suc s i 0 h, trimmed_snoc, e, length-take-le i s k)

fillers_none : (m : ℕ) → trimmed_length (replicate m filler) ≡ 0
unfolding trimmed_length is_filler
fillers_none zero = refl
fillers_none (suc m) = rw (fillers_none m)

pub trimmed_fillers : (s : List ℕ) (m : ℕ) → trimmed_length (s ++ replicate m filler) ≡ trimmed_length s
unfolding trimmed_length
trimmed_fillers [] m = fillers_none m
trimmed_fillers (c ∷ s) m = rw (trimmed_fillers s m)

-- the same of characters that are all fillers
fillers_gone : (s : List ℕ) → every is_filler s ≡ true → trimmed_length s ≡ 0
unfolding trimmed_length every
fillers_gone [] e = refl
fillers_gone (c ∷ s) e =
    let both = and_both (is_filler c) (every is_filler s) e in
    rw (both.0, fillers_gone s both.1)

trimmed_behind : (a b : List ℕ) → every is_filler b ≡ true → trimmed_length (a ++ b) ≡ trimmed_length a
unfolding trimmed_length
trimmed_behind [] b e = fillers_gone b e
trimmed_behind (c ∷ a) b e = rw (trimmed_behind a b e)

-- a list that ends in n fillers, as the library's `strip_suffix` says it, and one that ends in none
fillers_same : (n : ℕ) (s : List ℕ) → pointwise eqb s (replicate n filler) ≡ true → every is_filler s ≡ true
unfolding every is_filler
fillers_same n [] e = refl
fillers_same zero (c ∷ s) e = absurd (false≢true e)
fillers_same (suc n) (c ∷ s) e =
    let both = and_both (eqb c filler) (pointwise eqb s (replicate n filler)) e in
    rw (both.0, fillers_same n s both.1)

pub trimmed_suffix : (s : List ℕ) (n k : ℕ) → pointwise eqb (drop k s) (replicate n filler) ≡ true
    → trimmed_length (take k s) ≡ trimmed_length s
trimmed_suffix s n k e =
    sym (trimmed_behind (take k s) (drop k s) (fillers_same n (drop k s) e)) ∙ ap trimmed_length (take-append-drop k s)

pub trimmed_whole : (s : List ℕ) → pointwise eqb (drop (length s - 1) s) (filler ∷ []) ≡ false → length s ≡ trimmed_length s
unfolding trimmed_length is_filler
trimmed_whole [] e = refl
trimmed_whole (c ∷ s) e =
    let l = c ∷ s in
    let i = length s in
    let h : i < length l = omega arith in
    let past : length l ≤ suc i = omega arith in
    let end = drop-cons l i 0 h ∙ ap (λ t. get_or l i 0 ∷ t) (drop_of_length-le l past) in
    let k : length l - 1 ≡ i = omega arith in
    let other = rw (k, end, and-true) at e in
    let all : take (i + 1) l ≡ l = take_all (i + 1) l (omega arith) in
    omega (arith, rw all at (trimmed_other l i h other))

pub trimmed_twice : (s : List ℕ) → trimmed_length (take (trimmed_length s) s) ≡ trimmed_length s
unfolding trimmed_length
trimmed_twice [] = refl
trimmed_twice (c ∷ s) = go (is_filler c && eqb (trimmed_length s) 0) refl (trimmed_twice s)
  where
    go : (b : Bool) → is_filler c && eqb (trimmed_length s) 0 ≡ b → trimmed_length (take (trimmed_length s) s) ≡ trimmed_length s
        → trimmed_length (take (cond b 0 (suc (trimmed_length s))) (c ∷ s)) ≡ cond b 0 (suc (trimmed_length s))
    go true e h = refl
    go false e h = rw (h, e)

-- nothing is left exactly of characters that are all fillers
pub none_left : (s : List ℕ) → eqb (trimmed_length s) 0 ≡ every is_filler s
unfolding trimmed_length every
none_left [] = refl
none_left (c ∷ s) = rw (← none_left s) (go (is_filler c && eqb (trimmed_length s) 0))
  where
    go : (b : Bool) → eqb (cond b 0 (suc (trimmed_length s))) 0 ≡ b
    go true = refl
    go false = eqb-suc-zero (trimmed_length s)

-- a list that begins with no filler is not all fillers
pub trimmed_some : (s : List ℕ) → 0 < length s → is_filler (get_or s 0 0) ≡ false → 1 ≤ trimmed_length s
unfolding trimmed_length
trimmed_some [] h e = absurd (omega arith)
trimmed_some (c ∷ s) h e = rw e (omega arith)

trimmed_rest : (w c : ℕ) (s : List ℕ) → trimmed_length (c ∷ s) ≤ suc w → trimmed_length s ≤ w
unfolding trimmed_length
trimmed_rest w c s h = go (is_filler c && eqb (trimmed_length s) 0) refl h
  where
    go : (b : Bool) → is_filler c && eqb (trimmed_length s) 0 ≡ b → cond b 0 (suc (trimmed_length s)) ≤ suc w
        → trimmed_length s ≤ w
    go true e k = omega (arith, eqb-true (trimmed_length s) 0 (and_both (is_filler c) (eqb (trimmed_length s) 0) e).1)
    go false e k = omega arith

trimmed_front : (w : ℕ) (s : List ℕ) → trimmed_length s ≤ w → trimmed_length (take w s) ≡ trimmed_length s
unfolding trimmed_length
trimmed_front zero s h = omega arith
trimmed_front (suc w) [] h = refl
trimmed_front (suc w) (c ∷ s) h = rw (trimmed_front w s (trimmed_rest w c s h))

-- a cut behind it loses nothing
pub trimmed_cut : (w : ℕ) (s : List ℕ) → trimmed_length s ≤ w → trimmed (take w s) ≡ trimmed s
unfolding trimmed
trimmed_cut w s h = rw (trimmed_front w s h) (take-take (trimmed_length s) w s h)
