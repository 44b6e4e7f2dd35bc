-- Laws on lists that the kit does not have: parts, runs of one element, and stores of several.
use mathlib.Core.Path.{◌≡◌, ap, ◌∙◌}
use mathlib.Core.List.{List, [], ◌++◌, append-nil}
use Prim.Native.Nat.{ℕ, zero, suc, ◌+◌, ◌*◌, ◌≤◌, ◌<◌}
use native.Mathlib.Nat.{mul-zero}
use native.Mathlib.Omega.{arith}
use lib.ListN.{length, take, drop, get_or, length-append, length-drop, drop_of_length-le, take-append-drop}
use lib.Seq.{sets, sets-eq, take_all, drop-drop, length-take-le, get_or-take, get_or-drop}
use Rattle.std.specs.Simd.{first_chunks}
use Rattle.lent.proofs.Lists.{sets_append}

-- 32 octets copied to the front of a longer range
pub front_copied : (d out : List ℕ) → length d ≡ 32 → 32 ≤ length out
    → take (length out) d ++ drop (length d) out ≡ d ++ drop 32 out
front_copied d out n h = let le : length d ≤ length out = omega arith in rw (take_all (length out) d, n)

-- a list from t on is n of its elements, and those from t + n on
pub parted : (l : List ℕ) (t n : ℕ) → take n (drop t l) ++ drop (t + n) l ≡ drop t l
parted l t n = rw (← drop-drop n t l) (take-append-drop n (drop t l))

pub length_part : (l : List ℕ) (t n : ℕ) → t + n ≤ length l → length (take n (drop t l)) ≡ n
length_part l t n h = length-take-le n (drop t l) (rw length-drop (omega arith))

pub get_d_part : (l : List ℕ) (t n i : ℕ) → i < n → get_or (take n (drop t l)) i 0 ≡ get_or l (t + i) 0
get_d_part l t n i h = get_or-take n (drop t l) i 0 h ∙ get_or-drop t l i 0

-- two lists stored at the end
pub sets_end : (a b l : List ℕ) (i : ℕ) → i + (length a + length b) ≡ length l
    → sets (sets l i a) (i + length a) b ≡ take i l ++ (a ++ b)
sets_end a b l i e =
    let n : i + length (a ++ b) ≡ length l = rw length-append e in
    let fits : i + length (a ++ b) ≤ length l = omega arith in
    let none : drop (i + length (a ++ b)) l ≡ [] = drop_of_length-le l {i = i + length (a ++ b)} (omega arith) in
    sets_append l i a b ∙ sets-eq (a ++ b) l i fits ∙ rw (none, append-nil)

-- a chunk of a list
pub chunk_at : (n k : ℕ) (l : List ℕ) (i : ℕ) → i < k → get_or (first_chunks n k l) i [] ≡ take n (drop (n * i) l)
chunk_at n zero l i h = absurd (omega arith)
chunk_at n (suc k) l zero h = rw mul-zero
chunk_at n (suc k) l (suc i) h =
    let e : n * suc i ≡ n + n * i = omega arith in
    rw e (chunk_at n k (drop n l) i (omega arith) ∙ ap (take n) (drop-drop (n * i) n l))
