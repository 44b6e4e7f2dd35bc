-- Fields that are filled up with fillers, character by character.
use Prim.Native.Nat.{ℕ, zero, suc, ◌<◌}
use mathlib.Core.Path.{◌≡◌, refl, ap, ◌∙◌}
use mathlib.Core.List.{List, [], ◌∷◌}
use native.Mathlib.Omega.{arith}
use lib.ListN.{length, get_or}
use Rattle.zone.specs.Alphabet.{filler}
use Rattle.zone.specs.Record.{padded}
use Rattle.zone.proofs.Padded.{padded_cons, padded_nil, padded_zero}

-- a character that is there, whatever stands for one that is not
pub there : (s : List ℕ) (i a b : ℕ) → i < length s → get_or s i a ≡ get_or s i b
there [] i a b h = absurd (omega arith)
there (c ∷ s) zero a b h = refl
there (c ∷ s) (suc i) a b h = there s i a b (omega arith)

pub two_filled : (s : List ℕ) → padded 2 s ≡ get_or s 0 filler ∷ get_or s 1 filler ∷ []
two_filled [] = padded_nil 2
two_filled (a ∷ []) = padded_cons 1 a [] ∙ ap (λ (l : List ℕ). a ∷ l) (padded_nil 1)
two_filled (a ∷ b ∷ s) = padded_cons 1 a (b ∷ s)
    ∙ ap (λ (l : List ℕ). a ∷ l) (padded_cons 0 b s ∙ ap (λ (l : List ℕ). b ∷ l) (padded_zero s))

pub three_filled : (s : List ℕ) → padded 3 s ≡ get_or s 0 filler ∷ get_or s 1 filler ∷ get_or s 2 filler ∷ []
three_filled [] = padded_nil 3
three_filled (a ∷ s) = padded_cons 2 a s ∙ ap (λ (l : List ℕ). a ∷ l) (two_filled s)
