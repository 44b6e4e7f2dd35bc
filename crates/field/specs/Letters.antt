-- The fields of letters and fillers: document 01, "The text", Field rules, State, Sex and Name.
use Rattle.std.specs.Prelude.{ℕ, Bool, cond, ◌&&◌, ◌||◌, List, get_or, eqb}
use Prim.Native.Char.{code}
use Rattle.zone.specs.Alphabet.{is_letter, is_filler, every}

-- one to three letters, then fillers
unfoldable pub letters_then_fillers : ℕ → ℕ → ℕ → Bool
letters_then_fillers a b c = is_letter a && cond (is_letter b) (is_letter c || is_filler c) (is_filler b && is_filler c)

unfoldable pub state_rule : List ℕ → Bool
state_rule s = letters_then_fillers (get_or s 0 0) (get_or s 1 0) (get_or s 2 0)

-- M, F or `<`
unfoldable pub sex_rule : ℕ → Bool
sex_rule c = eqb c (code "M") || eqb c (code "F") || is_filler c

-- letters and fillers
unfoldable pub is_name_character : ℕ → Bool
is_name_character c = is_letter c || is_filler c

-- begins with a letter
unfoldable pub name_rule : List ℕ → Bool
name_rule s = is_letter (get_or s 0 0) && every is_name_character s
