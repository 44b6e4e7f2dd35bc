-- Characters and their codes tell each other, and a table has the characters by their codes.
use Prim.Native.Nat.{ℕ, zero, suc, ◌+◌, ◌-◌, ◌≤◌, ◌<◌}
use Prim.Native.Char.{code}
use mathlib.Core.Path.{◌≡◌, refl, ap, ◌∙◌}
use mathlib.Core.Bool.{Bool, true, false, ◌||◌, false≢true}
use mathlib.Core.List.{List, [], ◌∷◌}
use mathlib.Core.Logic.{◌⊎◌, inl, inr}
use native.Mathlib.Nat.{zero-add}
use native.Mathlib.Numerals.{unary_clauses}
use native.Mathlib.Omega.{arith}
use borrow.Author.Tests.{eqb-true, ne_eqb, leb-true, leb-false, le-leb, lt-leb}
use lib.Dec.{eqb, leb}
use lib.ListN.{get_or}
use Rattle.lent.proofs.Bools.{or_either}
use Rattle.zone.specs.Alphabet.{is_digit, is_letter, filler, is_filler, is_character}
use Rattle.zone.specs.Codes.{code_of, character_of}
use Rattle.zone.proofs.Classes.{digit_range, letter_range, in_digits, above_digits, in_letters}

digit_code : (c : ℕ) → code "0" ≤ c → c ≤ code "9" → code_of c ≡ c - code "0" + 1
unfolding code_of
digit_code c h k = rw (in_digits c h k)

letter_code : (c : ℕ) → code "A" ≤ c → c ≤ code "Z" → code_of c ≡ c - code "A" + 11
unfolding code_of
letter_code c h k = rw (above_digits c (omega arith), in_letters c h k)

code_digit : (n : ℕ) → 1 ≤ n → n ≤ 10 → character_of n ≡ n - 1 + code "0"
unfolding character_of
code_digit n h k = rw (ne_eqb n 0 (λ e. omega arith), le-leb n 10 k)

code_letter : (n : ℕ) → 11 ≤ n → n ≤ 36 → character_of n ≡ n - 11 + code "A"
unfolding character_of
code_letter n h k = rw (ne_eqb n 0 (λ e. omega arith), lt-leb n 10 (omega arith), le-leb n 36 k)

code_none : (n : ℕ) → 37 ≤ n → character_of n ≡ 0
unfolding character_of
code_none n h = rw (ne_eqb n 0 (λ e. omega arith), lt-leb n 10 (omega arith), lt-leb n 36 (omega arith))

-- a character is that of its code, which 6 bits hold
unfoldable pub IsTold : ℕ → Type 0
IsTold c = (character_of (code_of c) ≡ c) × (code_of c < 64)

digit_told : (c : ℕ) → code "0" ≤ c → c ≤ code "9" → IsTold c
unfolding IsTold
digit_told c h k =
    let same = digit_code c h k in
    (rw (same, code_digit (c - code "0" + 1) (omega arith) (omega arith)) (omega arith), rw same (omega arith))

letter_told : (c : ℕ) → code "A" ≤ c → c ≤ code "Z" → IsTold c
unfolding IsTold
letter_told c h k =
    let same = letter_code c h k in
    (rw (same, code_letter (c - code "A" + 11) (omega arith) (omega arith)) (omega arith), rw same (omega arith))

filler_told : IsTold filler
unfolding IsTold code_of character_of is_digit is_letter
filler_told = (refl, omega arith)

pub code_tells : (c : ℕ) → is_character c ≡ true → IsTold c
unfolding is_character is_filler
code_tells c e = go (or_either (is_digit c) (is_letter c || eqb c filler) e)
  where
    other : (is_letter c ≡ true) ⊎ (eqb c filler ≡ true) → IsTold c
    other (inl h) = letter_told c (letter_range c h).0 (letter_range c h).1
    other (inr h) = rw (eqb-true c filler h) filler_told

    go : (is_digit c ≡ true) ⊎ (is_letter c || eqb c filler ≡ true) → IsTold c
    go (inl h) = digit_told c (digit_range c h).0 (digit_range c h).1
    go (inr h) = other (or_either (is_letter c) (eqb c filler) h)

-- a code that gives a character is that character's
none_told : is_character 0 ≡ true → ⊥
unfolding is_character is_digit is_letter is_filler
none_told e = false≢true e

pub tells_code : (n : ℕ) → is_character (character_of n) ≡ true → code_of (character_of n) ≡ n
unfolding code_of character_of is_digit is_letter
tells_code zero e = refl
tells_code (suc n) e = go (leb (suc n) 10) refl (leb (suc n) 36) refl
  where
    go : (a : Bool) → leb (suc n) 10 ≡ a → (b : Bool) → leb (suc n) 36 ≡ b → code_of (character_of (suc n)) ≡ suc n
    go true p b q =
        let most = leb-true (suc n) 10 p in
        rw (code_digit (suc n) (omega arith) most, digit_code (suc n - 1 + code "0") (omega arith) (omega arith)) (omega arith)
    go false p true q =
        let least = leb-false (suc n) 10 p in
        let most = leb-true (suc n) 36 q in
        rw (code_letter (suc n) (omega arith) most, letter_code (suc n - 11 + code "A") (omega arith) (omega arith)) (omega arith)
    go false p false q = absurd (none_told (rw (code_none (suc n) (omega (arith, leb-false (suc n) 36 q))) at e))

-- the table of k characters, from the n-th code on
unfoldable pub by_code : (k n : ℕ) → List ℕ
by_code zero n = []
by_code (suc k) n = character_of n ∷ by_code k (suc n)

get_d_by_code : (k n i : ℕ) → i < k → get_or (by_code k n) i 0 ≡ character_of (n + i)
unfolding by_code
get_d_by_code zero n i h = absurd (omega arith)
get_d_by_code (suc k) n zero h = simp unary_clauses
get_d_by_code (suc k) n (suc i) h =
    let e : suc n + i ≡ n + suc i = omega arith in
    get_d_by_code k (suc n) i (omega arith) ∙ ap character_of e

pub by_code_lem : (code : ℕ) → code < 64 → get_or (by_code 64 0) code 0 ≡ character_of code
by_code_lem code h = get_d_by_code 64 0 code h ∙ ap character_of (zero-add code)
