-- Laws on lists that the proofs of this crate and of those above it share.
use mathlib.Core.Path.{◌≡◌, refl, ap, sym, ◌∙◌}
use mathlib.Core.List.{List, [], ◌++◌, append-nil, ◌∷◌}
use mathlib.Core.Logic.{◌⊎◌, inl, inr}
use Prim.Native.Nat.{ℕ, zero, suc, ◌+◌, ◌-◌, ◌≤◌, ◌<◌}
use native.Mathlib.Nat.{zero-add, le_of_eq, sub-zero, suc-sub-suc, add-zero, add-suc, suc-add}
use native.Mathlib.Numerals.{add-one}
use native.Mathlib.Omega.{arith}
use lib.ListN.{length, take, drop, get_or, set, length-drop, drop_of_length-le, replicate}
use lib.Seq.{drop-nil, drop-cons, take_all, paste-suc, take-length, drop-length, sets}
use Rattle.lent.specs.Copied.{copied, copied_at}

-- the pair at a place, and what follows it
pub pair_at_lem : (s : List ℕ) (i : ℕ) → i + 2 ≤ length s → drop i s ≡ get_or s i 0 ∷ get_or s (i + 1) 0 ∷ drop (i + 2) s
pair_at_lem s i h =
    let e : suc i ≡ i + 1 = omega arith in
    let f : suc (i + 1) ≡ i + 2 = omega arith in
    drop-cons s i 0 (omega arith)
    ∙ ap (λ l. get_or s i 0 ∷ l) (rw e (drop-cons s (i + 1) 0 (omega arith) ∙ rw f))

-- one more octet copied to the front of a range
pub copy_more : (to from : List ℕ) (i : ℕ) → i < length to → i < length from
    → set (take i from ++ drop i to) i (get_or from i 0) ≡ take (i + 1) from ++ drop (i + 1) to
copy_more to from i ht hf =
    simp add-one (simp zero-add at (paste-suc to 0 from i 0 (simp zero-add ht) hf))

-- a part up to the end is all that is left, and so is one that ends past it
pub rest_all : (s : List ℕ) (at : ℕ) → take (length s - at) (drop at s) ≡ drop at s
rest_all s at = take_all (length s - at) (drop at s) (le_of_eq (length-drop at s))

pub take_rest : (n at : ℕ) (s : List ℕ) → length s - at ≤ n → take (length s - at) (drop at s) ≡ take n (drop at s)
take_rest n at s h = rest_all s at ∙ sym (take_all n (drop at s) (rw length-drop h))

-- a copy that has come to the end of either list is the whole copy
pub copy_ends : (to from : List ℕ) (i : ℕ) → i ≤ length to → i ≤ length from → (length from ≤ i) ⊎ (length to ≤ i)
    → take i from ++ drop i to ≡ take (length to) from ++ drop (length from) to
copy_ends to from i ht hf (inl h) =
    let e : i ≡ length from = omega arith in
    let k : length from ≤ length to = omega arith in
    rw (e, take-length from, take_all (length to) from k)
copy_ends to from i ht hf (inr h) =
    let e : i ≡ length to = omega arith in
    let k : length to ≤ length from = omega arith in
    rw (e, drop-length to, drop_of_length-le to k)

-- past the end there is nothing to copy to
pub copy_past : (to : List ℕ) (at : ℕ) (from : List ℕ) → length to < at
    → to ≡ take at to ++ (take (length (drop at to)) from ++ drop (length from) (drop at to))
copy_past to at from h =
    let k : length to ≤ at = omega arith in
    rw (drop_of_length-le to k, drop-nil {A = ℕ} (length from), take_all at to k, append-nil)

-- a part that was lent from a place on, and comes back with a copy at its front
pub copy_into : (to : List ℕ) (at : ℕ) (from back : List ℕ)
    → back ≡ copied (take (length to - at) (drop at to)) from
    → take at to ++ (back ++ drop (length to - at) (drop at to)) ≡ copied_at to at from
copy_into to at from back e =
    rw (e, rest_all to at, drop_of_length-le (drop at to) (le_of_eq (length-drop at to)), append-nil)

-- what is left of a run of one octet
pub drop_replicate : (k n c : ℕ) → drop k (replicate n c) ≡ replicate (n - k) c
drop_replicate zero n c = rw (sub-zero n)
drop_replicate (suc k) zero c = let e : 0 - suc k ≡ 0 = omega arith in rw e
drop_replicate (suc k) (suc n) c = rw (suc-sub-suc n k) (drop_replicate k n c)

-- stores of two lists, one behind the other
pub sets_append : (l : List ℕ) (i : ℕ) (u v : List ℕ) → sets (sets l i u) (i + length u) v ≡ sets l i (u ++ v)
sets_append l i [] v = rw add-zero
sets_append l i (x ∷ u) v = rw (add-suc, ← suc-add) (sets_append (set l i x) (suc i) u v)

pub head_same : {A : Type 0} (c d : A) (a b : List A) → c ∷ a ≡ d ∷ b → c ≡ d
head_same c d a b e = cc

-- every place of zeros, and every place behind them, has 0
pub zeros : (n k : ℕ) → ◌≡◌ {A = ℕ} (get_or (replicate n 0) k 0) 0
zeros zero k = refl
zeros (suc n) zero = refl
zeros (suc n) (suc k) = zeros n k
