-- What is in no row of a `match`: a number that is none of n from k on is below them or past them.
use Prim.Native.Nat.{ℕ, zero, suc, ◌+◌, ◌≤◌}
use mathlib.Core.Path.{◌≡◌}
use native.Mathlib.Omega.{arith}

-- c is none of n numbers from k on, and what held before
unfoldable pub Absent : Type 0 → (n k c : ℕ) → Type 0
Absent before zero k c = before
Absent before (suc n) k c = Absent before n k c × (c ≡ k + n → ⊥)

pub past : (before : Type 0) (n k c : ℕ) → Absent before n k c → k ≤ c → k + n ≤ c
unfolding Absent
past before zero k c a h = omega arith
past before (suc n) k c a h = let l = past before n k c a.0 h in let e = a.1 in omega arith
