-- Lists of three and of four.
use Prim.Native.Nat.{ℕ}
use mathlib.Core.Path.{◌≡◌}
use mathlib.Core.List.{List, [], ◌∷◌}
use native.Mathlib.Omega.{arith}
use lib.ListN.{length}

-- what holds of every three, or four, holds of a list of that length
pub of_three_lem : (P : List ℕ → Type 0) → ((a b c : ℕ) → P (a ∷ b ∷ c ∷ [])) → (l : List ℕ) → length l ≡ 3 → P l
of_three_lem P all [] e = absurd (omega arith)
of_three_lem P all (a ∷ []) e = absurd (omega arith)
of_three_lem P all (a ∷ b ∷ []) e = absurd (omega arith)
of_three_lem P all (a ∷ b ∷ c ∷ []) e = all a b c
of_three_lem P all (a ∷ b ∷ c ∷ d ∷ l) e = absurd (omega arith)

pub of_four : (P : List ℕ → Type 0) → ((a b c d : ℕ) → P (a ∷ b ∷ c ∷ d ∷ [])) → (l : List ℕ) → length l ≡ 4 → P l
of_four P all [] e = absurd (omega arith)
of_four P all (a ∷ l) e = of_three_lem (λ m. P (a ∷ m)) (all a) l (omega arith)
