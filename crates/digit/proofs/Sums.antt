-- The laws of a weighted sum: its parts are small, its weights repeat, and pieces are joined.
use Prim.Native.Nat.{ℕ, zero, suc, ◌+◌, ◌*◌, ◌-◌, ◌%◌, ◌^◌, ◌≤◌, ◌<◌, min}
use Prim.Native.Char.{code}
use mathlib.Core.Path.{◌≡◌, refl}
use mathlib.Core.Bool.{Bool, true, false, cond}
use mathlib.Core.List.{List, [], ◌∷◌, ◌++◌, append-nil}
use native.Mathlib.Nat.{mod-mod, mod-lt, mul-le-mul, mul_comm, le_of_lt, zero-add, add-zero}
use native.Mathlib.Omega.{arith}
use lib.Dec.{lit≤, lit<}
use lib.ListN.{length, get_or, length-append}
use Rattle.zone.specs.Alphabet.{is_digit, is_letter}
use Rattle.zone.proofs.Classes.{digit_range, letter_range}
use Rattle.digit.specs.Check.{value, weight, sum_from}

pub value_le : (c : ℕ) → value c ≤ 35
unfolding value
value_le c = go (is_digit c) refl (is_letter c) refl
  where
    go : (d : Bool) → is_digit c ≡ d → (l : Bool) → is_letter c ≡ l → cond d (c - code "0") (cond l (c - code "A" + 10) 0) ≤ 35
    go true p l q = omega (arith, (digit_range c p).1)
    go false p true q = omega (arith, (letter_range c q).1)
    go false p false q = omega arith

-- the same of what the code counts
pub counted_le : {a : ℕ} (c : ℕ) → a ≡ value c → a ≤ 35
counted_le c e = rw e (value_le c)

pub weight_le : (i : ℕ) → weight i ≤ 7
unfolding weight
weight_le i = go (i % 3) (mod-lt i (lit< tt))
  where
    go : (k : ℕ) → k < 3 → get_or (7 ∷ 3 ∷ 1 ∷ []) k 0 ≤ 7
    go zero h = lit≤ tt
    go (suc zero) h = lit≤ tt
    go (suc (suc zero)) h = lit≤ tt
    go (suc (suc (suc k))) h = omega arith

-- weights repeat
pub weight_mod : (i : ℕ) → weight (i % 3) ≡ weight i
unfolding weight
weight_mod i = rw (mod-mod i 3)

pub weight_at : (i k : ℕ) → weight (i % 3 + k) ≡ weight (i + k)
unfolding weight
weight_at i k =
    let e : (i % 3 + k) % 3 ≡ (i + k) % 3 = omega arith in
    rw e

-- what one count adds
pub count_le : {a b : ℕ} (i : ℕ) → a ≤ 255 → b ≡ weight i → a * b ≤ 1785
count_le i h q = rw q (mul-le-mul h (weight_le i))

-- what a third of a field adds
pub part_le : {b : ℕ} (a i : ℕ) → a < 2 ^ 32 → b ≡ weight i → a * b ≤ 7 * 2 ^ 32
part_le a i h q = rw (q, mul_comm a (weight i)) (mul-le-mul (weight_le i) (le_of_lt h))

pub sum_mod : (i j : ℕ) (s : List ℕ) → i % 3 ≡ j % 3 → sum_from i s ≡ sum_from j s
unfolding sum_from weight
sum_mod i j [] e = refl
sum_mod i j (c ∷ s) e =
    let k : suc i % 3 ≡ suc j % 3 = omega arith in
    rw (e, sum_mod (suc i) (suc j) s k)

-- the sum over joined pieces
pub sum_append : (i : ℕ) (a b : List ℕ) → sum_from i (a ++ b) ≡ sum_from i a + sum_from (i + length a) b
unfolding sum_from
sum_append i [] b = rw (zero-add (sum_from (i + 0) b), add-zero i)
sum_append i (c ∷ a) b =
    let k : i + suc (length a) ≡ suc i + length a = omega arith in
    rw (k, sum_append (suc i) a b) (omega arith)

-- The loop over a long field: its next characters, whose sum moves into the sum so far. Where less than 255 are next, none are
-- left behind them.
pub sum_more : (sum : ℕ) (part rest : List ℕ) → length part ≡ min 255 (length (part ++ rest))
    → ((sum + sum_from 0 part) % 10 + sum_from 0 rest) % 10 ≡ (sum + sum_from 0 (part ++ rest)) % 10
unfolding sum_from
sum_more sum part [] h =
    rw (append-nil part) (omega arith)
sum_more sum part (x ∷ rest) h =
    let long : length part ≡ 255 = omega (arith, length-append part (x ∷ rest)) in
    let all = sum_append 0 part (x ∷ rest) in
    let again = sum_mod (0 + length part) 0 (x ∷ rest) (rw long refl) in
    rw (all, again) (omega arith)

pub sum_none : (s : List ℕ) → length s ≡ 0 → sum_from 0 s ≡ 0
unfolding sum_from
sum_none [] h = refl
sum_none (c ∷ s) h = absurd (omega arith)
