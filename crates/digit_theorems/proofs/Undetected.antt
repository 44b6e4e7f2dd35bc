-- The lists of pairs have exactly the undetected slips of different characters.
use Prim.Native.Nat.{ℕ, suc, ◌-◌, ◌+◌, ◌%◌, ◌≤◌, ◌<◌}
use Prim.Native.Char.{code}
use mathlib.Core.Path.{◌≡◌}
use mathlib.Core.Bool.{Bool, true, false, cond}
use mathlib.Core.Logic.Iff
use mathlib.Core.Logic.{◌↔◌}
use native.Mathlib.Omega.{arith}
use Rattle.zone.specs.Alphabet.{is_digit, is_letter, is_character}
use Rattle.zone.specs.Codes.{code_of}
use Rattle.zone.proofs.Coding.{IsTold, code_tells}
use Rattle.digit.specs.Check.{value}
use Rattle.digit_theorems.specs.Pairs.{pair_of, undetected, On, ListsOnePlace, ListsNeighbours}
use Rattle.digit.proofs.Sums.{value_le}
use Rattle.digit_theorems.proofs.Slips.{one_place, neighbours}
use Rattle.digit_theorems.proofs.Pairs.{complete}

-- a code is at most one more than the value
code_le : (c : ℕ) → code_of c ≤ suc (value c)
unfolding code_of value
code_le c = go (is_digit c) (is_letter c)
  where
    go : (d l : Bool)
        → cond d (c - code "0" + 1) (cond l (c - code "A" + 11) 0) ≤ suc (cond d (c - code "0") (cond l (c - code "A" + 10) 0))
    go true l = omega arith
    go false true = omega arith
    go false false = omega arith

listed_exactly : (modulus c d : ℕ) → is_character c ≡ true → is_character d ≡ true → code_of c < code_of d
    → (value c % modulus ≡ value d % modulus) ↔ On (pair_of c d) (undetected modulus)
unfolding pair_of IsTold
listed_exactly modulus c d h k l =
    let all = rw ((code_tells c h).0, (code_tells d k).0) at (complete modulus (pair_of c d)) in
    (λ e. all.1 (l, omega (arith, code_le d, value_le d), e), λ o. (all.0 o).2)

pub lists_one_place : ListsOnePlace
lists_one_place a b c d h k l = Iff.trans (one_place a b c d) (listed_exactly 10 c d h k l)

pub lists_neighbours : ListsNeighbours
lists_neighbours a b c d h k l = Iff.trans (neighbours a b c d) (listed_exactly 5 c d h k l)
