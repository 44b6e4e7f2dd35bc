-- Laws on the blocks of a padded message, one after the other.
use mathlib.Core.Path.{◌≡◌, ap, sym, ◌∙◌}
use mathlib.Core.List.{List, ◌∷◌, ◌++◌}
use Prim.Native.Nat.{ℕ, suc, ◌+◌, ◌-◌, ◌*◌, ◌/◌, ◌%◌, ◌≤◌, ◌<◌}
use native.Mathlib.Omega.{arith}
use lib.ListN.{length, take, drop, replicate, length-append, length-drop}
use lib.Seq.{take_all, take_at, drop_at, drop-drop, length-take-le}
use Rattle.sha256.specs.Padding.{octets, padding, padded}
use Rattle.sha256.proofs.OctetLaws.{length-octets}
use Rattle.sha256.proofs.PaddingLaws.{end_one, end_two, length_marked, padded_block, padded_long}
use Rattle.sha256.specs.Hash.{compressed, hashed, chained}

-- one block more
pub chained_more : (H M : List ℕ) → 64 ≤ length M → chained (compressed H (take 64 M)) (drop 64 M) ≡ chained H M
unfolding chained hashed
chained_more H M h =
    let e : length M / 64 ≡ suc ((length M - 64) / 64) = omega arith in
    rw (length-drop 64 M, e)

pub chained_none : (H M : List ℕ) → length M < 64 → chained H M ≡ H
unfolding chained hashed
chained_none H M h = let e : length M / 64 ≡ 0 = omega arith in rw e

chained_one : (H M : List ℕ) → length M ≡ 64 → compressed H M ≡ chained H M
chained_one H M e =
    let le : length M ≤ 64 = omega arith in
    let ge : 64 ≤ length M = omega arith in
    let few : length (drop 64 M) < 64 = rw length-drop (omega arith) in
    sym (ap (compressed H) (take_all 64 M le)) ∙ sym (chained_none (compressed H (take 64 M)) (drop 64 M) few)
    ∙ chained_more H M ge

chained_two : (H M N : List ℕ) → length M ≡ 64 → length N ≡ 64 → compressed (compressed H M) N ≡ chained H (M ++ N)
chained_two H M N em en =
    let ge : 64 ≤ length (M ++ N) = rw length-append (omega arith) in
    chained_one (compressed H M) N en
    ∙ rw (take_at M N 64 em, drop_at M N 64 em) at (chained_more H (M ++ N) ge)

-- the padded end in one block, and in two
pub finish_one : (H s : List ℕ) (n : ℕ) → n % 64 ≡ length s → length s < 56
    → compressed H (take 56 (s ++ (0x80 ∷ replicate (63 - length s) 0)) ++ octets 8 (8 * n)) ≡ chained H (s ++ padding n)
finish_one H s n m h =
    let o = octets 8 (8 * n) in
    let B = s ++ (0x80 ∷ replicate (63 - length s) 0) in
    let k : length s < 64 = omega arith in
    let nb : length B ≡ 64 = length_marked s k in
    let nt : length (take 56 B) ≡ 56 = length-take-le 56 B (omega arith) in
    let nl : length (take 56 B ++ o) ≡ 64 = rw (length-append, nt, length-octets 8 (8 * n)) in
    chained_one H (take 56 B ++ o) nl ∙ ap (chained H) (end_one s n m h)

pub finish_two : (H s : List ℕ) (n : ℕ) → n % 64 ≡ length s → 56 ≤ length s
    → compressed (compressed H (s ++ (0x80 ∷ replicate (63 - length s) 0))) (replicate 56 0 ++ octets 8 (8 * n))
    ≡ chained H (s ++ padding n)
finish_two H s n m h =
    let o = octets 8 (8 * n) in
    let k : length s < 64 = omega arith in
    let nl : length (replicate 56 0 ++ o) ≡ 64 = rw (length-append, length-octets 8 (8 * n)) in
    chained_two H (s ++ (0x80 ∷ replicate (63 - length s) 0)) (replicate 56 0 ++ o) (length_marked s k) nl
    ∙ ap (chained H) (sym (end_two s n m h))

-- a whole block of the message
pub chained_block : (H m : List ℕ) (at : ℕ) → at + 64 ≤ length m
    → chained (compressed H (take 64 (drop at m))) (drop (at + 64) (padded m)) ≡ chained H (drop at (padded m))
chained_block H m at h =
    rw (padded_block m at h, drop-drop 64 at (padded m)) at (chained_more H (drop at (padded m)) (padded_long m at h))
