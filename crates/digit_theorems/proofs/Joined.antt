-- The laws of joined fields: sums are added, and weights repeat after three places.
use Prim.Native.Nat.{ℕ, ◌+◌, ◌-◌, ◌%◌}
use Prim.Native.Char.{code}
use mathlib.Core.Path.{◌≡◌, refl, ap, sym, ◌∙◌}
use mathlib.Core.List.{List, [], ◌∷◌, ◌++◌, flatten, append-nil}
use native.Mathlib.Nat.{mod-mod, zero-add, add-zero}
use native.Mathlib.Omega.{arith}
use borrow.Author.Tests.{eqb-true}
use lib.Dec.{eqb}
use lib.ListN.{length, replicate}
use Rattle.lent.proofs.Bools.{and_both}
use Rattle.zone.specs.Alphabet.{filler}
use Rattle.digit.specs.Check.{sum_from, check_of, digit_of}
use Rattle.digit_theorems.specs.Joined.{check_from, checks_from, checks, in_threes}
use Rattle.digit_theorems.specs.Joined.{Joined, AfterThrees, FillersBehind, JoinedFields, FieldsInThrees}
use Rattle.digit.proofs.Sums.{sum_mod, sum_append}
use Rattle.digit.proofs.Written.{sum_fillers}

pub joined : Joined
unfolding check_of check_from
joined a b = rw (sum_append 0 a b, zero-add) (omega arith)

pub after_threes : AfterThrees
unfolding check_of check_from
after_threes a b e = rw (← sum_mod (length a) 0 b e) (joined a b)

pub fillers_behind : FillersBehind
unfolding check_of
fillers_behind a n = rw (sum_append 0 a (replicate n filler), sum_fillers, add-zero)

sum_fields : (place : ℕ) (fields : List (List ℕ)) → sum_from place (flatten fields) % 10 ≡ checks_from place fields % 10
unfolding flatten checks_from check_from sum_from
sum_fields place [] = refl
sum_fields place (a ∷ fields) = rw (sum_append place a (flatten fields)) (omega (arith, sum_fields (place + length a) fields))

pub joined_fields : JoinedFields
unfolding check_of
joined_fields fields = sum_fields 0 fields

pub fields_in_threes : FieldsInThrees
unfolding flatten checks in_threes check_of sum_from
fields_in_threes [] e = refl
fields_in_threes (a ∷ []) e = rw (append-nil a, add-zero) (sym (mod-mod (sum_from 0 a) 10))
fields_in_threes (a ∷ b ∷ fields) e =
    let both = and_both (eqb (length a % 3) 0) (in_threes (b ∷ fields)) e in
    let two = after_threes a (flatten (b ∷ fields)) (eqb-true (length a % 3) 0 both.0) in
    two ∙ omega (arith, fields_in_threes (b ∷ fields) both.1)

-- The same of the digits that are written.
pub joined_digit : (a b : List ℕ) → digit_of (a ++ b) ≡ code "0" + (check_of a + check_from (length a) b) % 10
unfolding digit_of
joined_digit a b = ap (λ k. code "0" + k) (joined a b)

pub threes_digit : (a b : List ℕ) → length a % 3 ≡ 0
    → digit_of (a ++ b) ≡ code "0" + (digit_of a - code "0" + (digit_of b - code "0")) % 10
unfolding digit_of
threes_digit a b e = omega (arith, after_threes a b e)

pub fillers_digit_behind : (a : List ℕ) (n : ℕ) → digit_of (a ++ replicate n filler) ≡ digit_of a
unfolding digit_of
fillers_digit_behind a n = ap (λ k. code "0" + k) (fillers_behind a n)
