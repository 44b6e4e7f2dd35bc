-- Characters that are no fillers.
use Prim.Native.Nat.{ℕ, zero, suc, ◌≤◌, ◌<◌}
use mathlib.Core.Path.{◌≡◌, refl}
use mathlib.Core.Bool.{true, false, Bool, cond, ◌&&◌}
use borrow.Author.Tests.{not-true}
use mathlib.Core.List.{List, [], ◌∷◌, ◌++◌}
use native.Mathlib.Omega.{arith}
use lib.Dec.{eqb, eqb-suc-zero}
use lib.ListN.{length, take}
use Rattle.zone.specs.Alphabet.{filler, is_filler, first, first_filler, every}
use Rattle.sound.specs.Sound.{is_solid}
use Rattle.lent.proofs.Bools.{and_both}
use Rattle.zone.specs.Record.{trimmed_length, padded}
use Rattle.zone.proofs.Padded.{padded_cons}

pub solid : (c : ℕ) → is_solid c ≡ true → is_filler c ≡ false
unfolding is_solid
solid c e = not-true (is_filler c) e

all_solid : (b : List ℕ) → every is_solid b ≡ true → trimmed_length b ≡ length b
unfolding every trimmed_length
all_solid [] e = refl
all_solid (c ∷ b) e =
    let both = and_both (is_solid c) (every is_solid b) e in
    rw (solid c both.0, all_solid b both.1)

-- what ends in characters that are no fillers has no trailing fillers
pub ends_solid : (a b : List ℕ) → every is_solid b ≡ true → 0 < length b → trimmed_length (a ++ b) ≡ length (a ++ b)
unfolding trimmed_length
ends_solid [] b e h = all_solid b e
ends_solid (c ∷ a) b e h = rw (ends_solid a b e h) (go (length (a ++ b)) (longer a) (is_filler c))
  where
    longer : (a : List ℕ) → 0 < length (a ++ b)
    longer [] = h
    longer (x ∷ xs) = omega arith

    go : (n : ℕ) → 0 < n → (x : Bool) → cond (x && eqb n 0) 0 (suc n) ≡ suc n
    go zero k x = absurd (omega arith)
    go (suc n) k true = rw (eqb-suc-zero n)
    go (suc n) k false = refl

-- before the first filler there is none
pub solid_before : (n : ℕ) (s : List ℕ) → n ≤ first_filler s → every is_solid (take n s) ≡ true
unfolding every first_filler first is_solid
solid_before zero s h = refl
solid_before (suc n) [] h = refl
solid_before (suc n) (c ∷ s) h = go (is_filler c) refl h (solid_before n s)
  where
    go : (b : Bool) → is_filler c ≡ b → suc n ≤ cond b 0 (suc (first is_filler s))
        → (n ≤ first is_filler s → every is_solid (take n s) ≡ true)
        → is_solid c && every is_solid (take n s) ≡ true
    go true e k rest = absurd (omega arith)
    go false e k rest = rw (e, rest (omega arith))

-- the first filler stands behind characters that are none
pub first_behind : (n : ℕ) (s u : List ℕ) → every is_solid s ≡ true → length s < n
    → first_filler (padded n (s ++ (filler ∷ u))) ≡ length s
unfolding every first_filler first is_filler
first_behind zero s u e h = absurd (omega arith)
first_behind (suc n) [] u e h = rw (padded_cons n filler u)
first_behind (suc n) (c ∷ s) u e h =
    let both = and_both (is_solid c) (every is_solid s) e in
    rw (padded_cons n c (s ++ (filler ∷ u)), solid c both.0, first_behind n s u both.1 (omega arith))
