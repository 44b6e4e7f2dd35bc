-- A record without data: its places are fillers, which is all that is asked.
use Prim.Native.Nat.{ℕ}
use mathlib.Core.Path.{◌≡◌, refl}
use mathlib.Core.Bool.{Bool, true, false, ◌&&◌, ◌||◌}
use mathlib.Core.List.{List, [], ◌∷◌}
use native.Mathlib.Omega.{arith}
use borrow.Author.Tests.{le-leb}
use Rattle.lent.proofs.Bools.{and_both}
use Rattle.zone.specs.Alphabet.{is_character, is_digit, is_letter, is_filler, every}
use Rattle.zone.proofs.Trimmed.{none_left}
use Rattle.sound.specs.Sound.{is_held}

-- fillers are of the alphabet
fillers_pure : (s : List ℕ) → every is_filler s ≡ true → every is_character s ≡ true
unfolding every is_character
fillers_pure [] e = refl
fillers_pure (c ∷ s) e =
    let both = and_both (is_filler c) (every is_filler s) e in
    rw (both.0, fillers_pure s both.1) (go (is_digit c) (is_letter c))
  where
    go : (a b : Bool) → (a || (b || true)) && true ≡ true
    go true b = refl
    go false true = refl
    go false false = refl

pub no_data : (most : ℕ) (s : List ℕ) → is_held 0 most s 0 && every is_character s ≡ every is_filler s
unfolding is_held
no_data most s = rw (le-leb 0 most (omega arith), none_left s) (go (every is_filler s) refl)
  where
    go : (b : Bool) → every is_filler s ≡ b → b && every is_character s ≡ b
    go true e = fillers_pure s e
    go false e = refl
