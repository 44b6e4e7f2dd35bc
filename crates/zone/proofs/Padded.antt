-- The laws of `padded`: a copy over fillers is one, two copies one behind the other are one, and trailing fillers make no
-- difference.
use Prim.Native.Nat.{ℕ, zero, suc, ◌+◌, ◌-◌, ◌≤◌, ◌<◌}
use mathlib.Core.Path.{◌≡◌, refl, ap, ◌∙◌}
use mathlib.Core.Bool.{Bool, true, false, cond, ◌&&◌}
use mathlib.Core.List.{List, [], ◌∷◌, ◌++◌, append-nil, append_assoc}
use native.Mathlib.Nat.{sub-zero, suc-sub-suc}
use native.Mathlib.Omega.{arith}
use borrow.Author.Tests.{eqb-true}
use lib.Dec.{eqb}
use lib.ListN.{length, take, drop, replicate, length-replicate, length-take, length-append}
use lib.Seq.{take_all, take-take}
use native.Mathlib.Numerals.{add-one}
use Rattle.lent.specs.Copied.{copied, copied_at}
use Rattle.lent.proofs.Bools.{and_both}
use Rattle.lent.proofs.Lists.{drop_replicate}
use Rattle.zone.specs.Alphabet.{filler, is_filler}
use Rattle.zone.specs.Record.{trimmed_length, trimmed, padded}

-- a copy over fillers
pub copied_padded : (n : ℕ) (s : List ℕ) → copied (replicate n filler) s ≡ padded n s
unfolding padded
copied_padded n s = rw (length-replicate, drop_replicate)

-- step by step
pub padded_cons : (n c : ℕ) (s : List ℕ) → padded (suc n) (c ∷ s) ≡ c ∷ padded n s
unfolding padded
padded_cons n c s = rw (suc-sub-suc n (length s))

pub padded_nil : (n : ℕ) → padded n [] ≡ replicate n filler
unfolding padded
padded_nil zero = refl
padded_nil (suc n) = rw (sub-zero (suc n))

pub padded_zero : (s : List ℕ) → padded 0 s ≡ []
unfolding padded
padded_zero s = let k : 0 - length s ≡ 0 = omega arith in rw k

-- what fills its room exactly
pub padded_exact : (n : ℕ) (s : List ℕ) → length s ≡ n → padded n s ≡ s
unfolding padded
padded_exact n s e =
    let k : n - length s ≡ 0 = omega arith in
    let l : length s ≤ n = omega arith in
    rw (k, take_all n s l, append-nil)

-- one list behind the other
pub padded_append : (n : ℕ) (a b : List ℕ) → padded n (a ++ b) ≡ take n a ++ padded (n - length a) b
padded_append zero a b =
    let k : 0 - length a ≡ 0 = omega arith in
    rw (k, padded_zero b, padded_zero (a ++ b))
padded_append (suc n) [] b = rw (sub-zero (suc n))
padded_append (suc n) (c ∷ a) b = rw (padded_cons n c (a ++ b), suc-sub-suc n (length a), padded_append n a b)

pub take-padded : (n : ℕ) (a : List ℕ) → take (length a) (padded n a) ≡ take n a
take-padded zero [] = refl
take-padded zero (c ∷ a) = rw (padded_zero (c ∷ a))
take-padded (suc n) [] = refl
take-padded (suc n) (c ∷ a) = rw (padded_cons n c a, take-padded n a)

pub drop-padded : (n : ℕ) (a : List ℕ) → drop (length a) (padded n a) ≡ replicate (n - length a) filler
drop-padded zero [] = padded_zero []
drop-padded zero (c ∷ a) = let k : 0 - suc (length a) ≡ 0 = omega arith in rw (padded_zero (c ∷ a), k)
drop-padded (suc n) [] = rw (padded_nil (suc n), sub-zero (suc n))
drop-padded (suc n) (c ∷ a) = rw (padded_cons n c a, suc-sub-suc n (length a)) (drop-padded n a)

-- a copy over fillers, and another behind it
pub copied_behind : (n : ℕ) (a b : List ℕ) → copied_at (padded n a) (length a) b ≡ padded n (a ++ b)
copied_behind n a b = rw (take-padded n a, drop-padded n a, copied_padded (n - length a) b, padded_append n a b)

-- a list with room to spare
pub padded_spare : (n : ℕ) (s : List ℕ) → length s ≤ n → padded n s ≡ s ++ replicate (n - length s) filler
unfolding padded
padded_spare n s h = rw (take_all n s h)

pub length-padded : (n : ℕ) (s : List ℕ) → length (padded n s) ≡ n
unfolding padded
length-padded n s = rw (length-append (take n s) (replicate (n - length s) filler), length-replicate, length-take) (omega arith)

-- the trimmed list is no longer than the list
pub trimmed_le : (s : List ℕ) → trimmed_length s ≤ length s
unfolding trimmed_length
trimmed_le [] = omega arith
trimmed_le (c ∷ s) = go (is_filler c && eqb (trimmed_length s) 0) (trimmed_le s)
  where
    go : (b : Bool) → trimmed_length s ≤ length s → cond b 0 (suc (trimmed_length s)) ≤ suc (length s)
    go true h = omega arith
    go false h = omega arith

pub trimmed_length_lem : (s : List ℕ) → length (trimmed s) ≡ trimmed_length s
unfolding trimmed
trimmed_length_lem s = rw length-take (omega (arith, trimmed_le s))

-- a filler before nothing but fillers
padded_fillers : (n c : ℕ) (s : List ℕ) → is_filler c && eqb (trimmed_length s) 0 ≡ true
    → padded n (take (trimmed_length s) s) ≡ padded n s
    → padded (suc n) [] ≡ padded (suc n) (c ∷ s)
unfolding is_filler
padded_fillers n c s e h =
    let p = and_both (is_filler c) (eqb (trimmed_length s) 0) e in
    let same : c ≡ filler = eqb-true c filler p.0 in
    let none : trimmed_length s ≡ 0 = eqb-true (trimmed_length s) 0 p.1 in
    let rest : padded n [] ≡ padded n s = rw none at h in
    rw (padded_cons n c s, ← rest, same, padded_nil (suc n), padded_nil n)

-- trailing fillers make no difference
pub padded_trimmed : (n : ℕ) (s : List ℕ) → padded n (trimmed s) ≡ padded n s
unfolding trimmed trimmed_length
padded_trimmed zero s = rw (padded_zero (take (trimmed_length s) s), padded_zero s)
padded_trimmed (suc n) [] = refl
padded_trimmed (suc n) (c ∷ s) = go (is_filler c && eqb (trimmed_length s) 0) refl (padded_trimmed n s)
  where
    go : (b : Bool) → is_filler c && eqb (trimmed_length s) 0 ≡ b → padded n (take (trimmed_length s) s) ≡ padded n s
        → padded (suc n) (take (cond b 0 (suc (trimmed_length s))) (c ∷ s)) ≡ padded (suc n) (c ∷ s)
    go true e h = padded_fillers n c s e h
    go false e h = rw (padded_cons n c (take (trimmed_length s) s), padded_cons n c s, h)

-- what does not fit makes no difference
pub padded_cut : (n : ℕ) (s : List ℕ) → padded n (take n s) ≡ padded n s
unfolding padded
padded_cut n s =
    let e : n - length (take n s) ≡ n - length s = rw length-take (omega arith) in
    rw (take-take n n s (omega arith), e)

pub padded_full : (n : ℕ) (s : List ℕ) → n ≤ length s → padded n s ≡ take n s
unfolding padded
padded_full n s h =
    let e : n - length s ≡ 0 = omega arith in
    rw (e, append-nil)

pub padded_behind : (n : ℕ) (s : List ℕ) (c : ℕ) → length s < n
    → padded n (s ++ (c ∷ [])) ≡ s ++ (c ∷ replicate (n - suc (length s)) filler)
padded_behind n s c h =
    let m : length (s ++ (c ∷ [])) ≡ suc (length s) = length-append s (c ∷ []) ∙ add-one (length s) in
    padded_spare n (s ++ (c ∷ [])) (rw m (omega arith)) ∙ rw m (append_assoc s (c ∷ []) (replicate (n - suc (length s)) filler))

-- fillers cut from fillers
pub cut_fillers : (a w n : ℕ) → a + w ≤ n → take {A = ℕ} w (drop a (replicate n filler)) ≡ replicate w filler
cut_fillers zero zero n h = refl
cut_fillers zero (suc w) zero h = absurd (omega arith)
cut_fillers zero (suc w) (suc n) h = ap (λ (l : List ℕ). filler ∷ l) (cut_fillers zero w n (omega arith))
cut_fillers (suc a) w zero h = absurd (omega arith)
cut_fillers (suc a) w (suc n) h = cut_fillers a w n (omega arith)

pub fillers_left : (k w : ℕ) (l : List ℕ) → k ≤ w → take w l ≡ replicate w filler
    → take (w - k) (drop k l) ≡ replicate (w - k) filler
fillers_left zero w l h e = rw (sub-zero w) e
fillers_left (suc k) zero l h e = absurd (omega arith)
fillers_left (suc k) (suc w) [] h e = absurd (omega (arith, ap length e))
fillers_left (suc k) (suc w) (c ∷ l) h e =
    let n : suc w - suc k ≡ w - k = omega arith in
    rw n (fillers_left k w l (omega arith) (ap (drop 1) e))
