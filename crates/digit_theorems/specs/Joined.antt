-- When check digits may be added: document 02, request 2026-11. What each law says; proofs/Joined.antt shows it.
use Rattle.std.specs.Prelude.{ℕ, ◌+◌, ◌%◌, ◌≡◌, Bool, true, ◌&&◌, eqb, length, replicate}
use mathlib.Core.List.{List, [], ◌∷◌, ◌++◌, flatten}
use Rattle.zone.specs.Alphabet.{filler}
use Rattle.digit.specs.Check.{sum_from, check_of}

-- the check of a field taken with weights starting at a place
unfoldable pub check_from : ℕ → List ℕ → ℕ
check_from place s = sum_from place s % 10

-- "the check of a followed by b is the check of a plus that of b taken with weights starting where a stopped, modulo 10"
abbrev pub Joined : Type 0
Joined = (a b : List ℕ) → check_of (a ++ b) ≡ (check_of a + check_from (length a) b) % 10

-- "When a's length is a multiple of three, b's ordinary check serves"
abbrev pub AfterThrees : Type 0
AfterThrees = (a b : List ℕ) → length a % 3 ≡ 0 → check_of (a ++ b) ≡ (check_of a + check_of b) % 10

-- "Fillers at the end never change a check"
abbrev pub FillersBehind : Type 0
FillersBehind = (a : List ℕ) (n : ℕ) → check_of (a ++ replicate n filler) ≡ check_of a

-- The first two of any number of fields: their checks added, each taken with weights starting where the one before it stopped,
unfoldable pub checks_from : ℕ → List (List ℕ) → ℕ
checks_from place [] = 0
checks_from place (a ∷ fields) = check_from place a + checks_from (place + length a) fields

abbrev pub JoinedFields : Type 0
JoinedFields = (fields : List (List ℕ)) → check_of (flatten fields) ≡ checks_from 0 fields % 10

-- or their ordinary checks, where the length of each but the last is a multiple of three
unfoldable pub checks : List (List ℕ) → ℕ
checks [] = 0
checks (a ∷ fields) = check_of a + checks fields

unfoldable pub in_threes : List (List ℕ) → Bool
in_threes [] = true
in_threes (a ∷ []) = true
in_threes (a ∷ b ∷ fields) = eqb (length a % 3) 0 && in_threes (b ∷ fields)

abbrev pub FieldsInThrees : Type 0
FieldsInThrees = (fields : List (List ℕ)) → in_threes fields ≡ true → check_of (flatten fields) ≡ checks fields % 10
