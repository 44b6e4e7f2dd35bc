-- Laws on the padded end of a message: how many zeros there are, and the block or two that they fill.
use mathlib.Core.Path.{◌≡◌, ap, ◌∙◌}
use mathlib.Core.List.{List, [], ◌∷◌, ◌++◌, append-nil, append_assoc}
use Prim.Native.Nat.{ℕ, suc, ◌+◌, ◌-◌, ◌*◌, ◌%◌, ◌≤◌, ◌<◌}
use native.Mathlib.Omega.{arith}
use lib.ListN.{length, take, drop, set, replicate, length-append, length-drop, length-replicate, replicate-append-replicate}
use lib.Seq.{take_all, set-append_seam, take_at, drop-append-le, take-append-le}
use Rattle.sha256.specs.Padding.{octets, zeros, padding, padded}
use Rattle.lent.proofs.Lists.{drop_replicate}

-- what 5.1.1 asks: of l = 8 n bits, with k zero bits, 7 of them in the mark's octet, l + 1 + k is 448 modulo 512, and no smaller
-- k would do
pub zeros_right : (n : ℕ) → (8 * n + 1 + (7 + 8 * zeros n)) % 512 ≡ 448
unfolding zeros
zeros_right n = omega arith

pub zeros_few : (n : ℕ) → 7 + 8 * zeros n < 512
unfolding zeros
zeros_few n = omega arith

-- of n octets, r past the last whole block
zeros_one : (n r : ℕ) → n % 64 ≡ r → r < 56 → zeros n ≡ 55 - r
unfolding zeros
zeros_one n r e h = omega arith

zeros_two : (n r : ℕ) → n % 64 ≡ r → 56 ≤ r → zeros n ≡ (63 - r) + 56
unfolding zeros
zeros_two n r e h = omega arith

-- a message's last octets copied into a block of zeros, and the mark set after them
pub mark_after : (s : List ℕ) → length s < 64
    → set (take 64 s ++ drop (length s) (replicate 64 0)) (length s) 0x80 ≡ s ++ (0x80 ∷ replicate (63 - length s) 0)
mark_after s h =
    let e : 64 - length s ≡ suc (63 - length s) = omega arith in
    let le : length s ≤ 64 = omega arith in
    let none : drop (length s) (replicate 64 0) ≡ replicate {A = ℕ} (suc (63 - length s)) 0 =
    drop_replicate (length s) 64 0 ∙ ap (λ (k : ℕ). replicate {A = ℕ} k 0) e in
    rw (take_all 64 s, none) (set-append_seam s 0 (replicate (63 - length s) 0) 0x80)

-- zeros in two runs, after the mark
marked_split : (s : List ℕ) (j k : ℕ) (o : List ℕ)
    → s ++ (0x80 ∷ (replicate (j + k) 0 ++ o)) ≡ (s ++ (0x80 ∷ replicate j 0)) ++ (replicate k 0 ++ o)
marked_split s j k o =
    rw (← replicate-append-replicate {A = ℕ} j k 0, append_assoc, append_assoc)

-- a short end fills one block
pub end_one : (s : List ℕ) (n : ℕ) → n % 64 ≡ length s → length s < 56
    → take 56 (s ++ (0x80 ∷ replicate (63 - length s) 0)) ++ octets 8 (8 * n) ≡ s ++ padding n
unfolding padding
end_one s n m h =
    let r = length s in
    let P = s ++ (0x80 ∷ replicate (55 - r) 0) in
    let e : 63 - r ≡ (55 - r) + 8 = omega arith in
    let cut : s ++ (0x80 ∷ replicate (63 - r) 0) ≡ P ++ replicate 8 0 =
    rw (e, ← append-nil (replicate {A = ℕ} ((55 - r) + 8) 0), marked_split s (55 - r) 8 [], append-nil) in
    let len : length P ≡ 56 = simp (length-append, length-replicate) (omega arith) in
    rw (cut, take_at P (replicate 8 0) 56 len, zeros_one n r m h, append_assoc)

-- a long one fills two
pub end_two : (s : List ℕ) (n : ℕ) → n % 64 ≡ length s → 56 ≤ length s
    → s ++ padding n ≡ (s ++ (0x80 ∷ replicate (63 - length s) 0)) ++ (replicate 56 0 ++ octets 8 (8 * n))
unfolding padding
end_two s n m h = rw (zeros_two n (length s) m h) (marked_split s (63 - length s) 56 (octets 8 (8 * n)))

pub length_marked : (s : List ℕ) → length s < 64 → length (s ++ (0x80 ∷ replicate (63 - length s) 0)) ≡ 64
length_marked s h = simp (length-append, length-replicate) (omega arith)

-- what is left of a padded message after some octets of the message
pub padded_after : (m : List ℕ) (at : ℕ) → at ≤ length m → drop at (padded m) ≡ drop at m ++ padding (length m)
unfolding padded
padded_after m at h = drop-append-le at m (padding (length m)) h

-- a whole block of the message is one of the padded message
pub padded_block : (m : List ℕ) (at : ℕ) → at + 64 ≤ length m → take 64 (drop at (padded m)) ≡ take 64 (drop at m)
unfolding padded
padded_block m at h =
    let le : at ≤ length m = omega arith in
    let k : 64 ≤ length (drop at m) = rw length-drop (omega arith) in
    rw (drop-append-le at m, take-append-le 64 (drop at m))

pub padded_long : (m : List ℕ) (at : ℕ) → at + 64 ≤ length m → 64 ≤ length (drop at (padded m))
unfolding padded
padded_long m at h = simp (length-drop, length-append) (omega arith)
