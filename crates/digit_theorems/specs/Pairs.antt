-- The undetected pairs of different characters, as a computed list: document 02, request 2026-12.
use Rattle.std.specs.Prelude.{ℕ, zero, suc, ◌*◌, ◌/◌, ◌%◌, ◌<◌, ◌≡◌, Bool, true, ◌&&◌, cond, ◌↔◌, ◌⊎◌, eqb, ltb}
use mathlib.Core.List.{List, [], ◌∷◌, ◌++◌, Memᴰ}
use Rattle.zone.specs.Alphabet.{is_character}
use Rattle.zone.specs.Codes.{code_of, character_of}
use Rattle.digit.specs.Check.{value, check_of}

-- "characters numbered 0 to 36 as in the entry, the lower first"
pub record Pair : Type 0 where
  pub lower : ℕ
  pub upper : ℕ

-- two characters as such a pair, where the first has the lower code
unfoldable pub pair_of : ℕ → ℕ → Pair
pair_of c d = record { lower = code_of c; upper = code_of d }

-- the values of the two characters agree modulo a number
abbrev pub Agree : ℕ → Pair → Type 0
Agree modulus p = value (character_of p.lower) % modulus ≡ value (character_of p.upper) % modulus

-- Pairs are numbered as they rise: 37 to each lower character.
unfoldable pub pair_at : ℕ → Pair
pair_at n = record { lower = n / 37; upper = n % 37 }

unfoldable pub is_undetected : ℕ → Pair → Bool
is_undetected modulus p =
    ltb p.lower p.upper
    && eqb (value (character_of p.lower) % modulus) (value (character_of p.upper) % modulus)

-- the undetected ones of k pairs, from the n-th on
unfoldable pub undetected_from : (modulus k n : ℕ) → List Pair
undetected_from modulus zero n = []
undetected_from modulus (suc k) n =
    cond (is_undetected modulus (pair_at n)) (pair_at n ∷ undetected_from modulus k (suc n)) (undetected_from modulus k (suc n))

-- of all: modulo 10 for one place, modulo 5 for two neighbours
unfoldable pub undetected : ℕ → List Pair
undetected modulus = undetected_from modulus (37 * 37) 0

-- What the list must be. A pair is on it:
abbrev pub On : Pair → List Pair → Type 0
On p ps = Memᴰ p ps

-- "proved complete": exactly when the lower is below the upper, both are codes of characters, and their values agree
abbrev pub Complete : Type 0
Complete =
    (modulus : ℕ) (p : Pair) → On p (undetected modulus) ↔ ((p.lower < p.upper) × (p.upper < 37) × Agree modulus p)

-- "in rising order": each comes before all behind it
abbrev pub Before : Pair → Pair → Type 0
Before p q = (p.lower < q.lower) ⊎ ((p.lower ≡ q.lower) × (p.upper < q.upper))

unfoldable pub Rising : List Pair → Type 0
Rising [] = Unit
Rising (p ∷ ps) = ((q : Pair) → On q ps → Before p q) × Rising ps

-- "each pair once": none stands behind itself
unfoldable pub Once : List Pair → Type 0
Once [] = Unit
Once (p ∷ ps) = (On p ps → ⊥) × Once ps

-- So the lists have the undetected slips, of any two different characters in any field:
abbrev pub Lists : (modulus : ℕ) → (slip : ℕ → ℕ → Type 0) → Type 0
Lists modulus slip =
    (c d : ℕ) → is_character c ≡ true → is_character d ≡ true → code_of c < code_of d
    → slip c d ↔ On (pair_of c d) (undetected modulus)

-- one for the other in one place,
abbrev pub ListsOnePlace : Type 0
ListsOnePlace = (a b : List ℕ) → Lists 10 (λ c d. check_of (a ++ (c ∷ b)) ≡ check_of (a ++ (d ∷ b)))

-- and the two as neighbours exchanged
abbrev pub ListsNeighbours : Type 0
ListsNeighbours = (a b : List ℕ) → Lists 5 (λ c d. check_of (a ++ (c ∷ d ∷ b)) ≡ check_of (a ++ (d ∷ c ∷ b)))
