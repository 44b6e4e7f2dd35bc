-- Characters and their codes, list by list.
use Prim.Native.Nat.{ℕ, ◌^◌}
use mathlib.Core.Path.{◌≡◌, refl}
use mathlib.Core.Bool.{true}
use mathlib.Core.List.{List, [], ◌∷◌, map}
use borrow.Author.Tests.{lt-ltb}
use Rattle.lent.proofs.Bools.{and_both}
use Rattle.zone.specs.Alphabet.{is_character, every}
use Rattle.zone.specs.Codes.{code_of, character_of}
use Rattle.zone.proofs.Coding.{IsTold, code_tells, tells_code}
use Rattle.cells.proofs.Fitting.{is_held}

-- codes fit six bits
pub codes_held : (c : List ℕ) → every is_character c ≡ true → every (is_held 6) (map code_of c) ≡ true
unfolding every is_held IsTold
codes_held [] e = refl
codes_held (x ∷ c) e =
    let both = and_both (is_character x) (every is_character c) e in
    rw (lt-ltb (code_of x) (2 ^ 6) (code_tells x both.0).1, codes_held c both.1)

-- and tell their characters
pub codes_tell : (c : List ℕ) → every is_character c ≡ true → map character_of (map code_of c) ≡ c
unfolding every IsTold
codes_tell [] e = refl
codes_tell (x ∷ c) e =
    let both = and_both (is_character x) (every is_character c) e in
    rw ((code_tells x both.0).0, codes_tell c both.1)

-- as characters tell their codes
pub characters_tell : (v : List ℕ) → every is_character (map character_of v) ≡ true → map code_of (map character_of v) ≡ v
unfolding every
characters_tell [] e = refl
characters_tell (x ∷ v) e =
    let both = and_both (is_character (character_of x)) (every is_character (map character_of v)) e in
    rw (tells_code x both.0, characters_tell v both.1)
