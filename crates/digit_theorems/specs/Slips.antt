-- Which slips a check digit finds: document 02, request 2026-12. What each law says; proofs/Slips.antt shows it.
use Rattle.std.specs.Prelude.{ℕ, ◌%◌, ◌≡◌, List, ◌∷◌, ◌++◌, ◌↔◌}
use Rattle.digit.specs.Check.{value, check_of}

-- "two fields that differ in one place have the same check exactly when the two characters' values agree modulo 10"
abbrev pub OnePlace : Type 0
OnePlace = (a b : List ℕ) (c d : ℕ) → (check_of (a ++ (c ∷ b)) ≡ check_of (a ++ (d ∷ b))) ↔ (value c % 10 ≡ value d % 10)

-- "two that differ by exchanging two neighbours, exactly when those two values agree modulo 5"
abbrev pub Neighbours : Type 0
Neighbours =
    (a b : List ℕ) (c d : ℕ) → (check_of (a ++ (c ∷ d ∷ b)) ≡ check_of (a ++ (d ∷ c ∷ b))) ↔ (value c % 5 ≡ value d % 5)
