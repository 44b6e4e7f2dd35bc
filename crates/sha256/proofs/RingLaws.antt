-- Laws on the ring of sixteen words: which words of a block's schedule it holds, and how it goes round.
use mathlib.Core.Path.{◌≡◌, ap, sym, ◌∙◌}
use mathlib.Core.List.{List}
use mathlib.Core.Logic.{◌⊎◌, ◌≢◌, inl, inr}
use Prim.Native.Nat.{ℕ, zero, suc, ◌+◌, ◌-◌, ◌*◌, ◌/◌, ◌%◌, ◌≤◌, ◌<◌}
use native.Mathlib.Nat.{add-zero, eq-or-lt_of_le}
use native.Mathlib.Omega.{arith}
use lib.ListN.{length, take, drop, get_or, set, length-set}
use lib.Seq.{get_or-set_same, get_or-set_other, get_or-drop, drop-set-lt, drop-drop, ext_get_or}
use Rattle.sha256.specs.Parsing.{word}
use Rattle.sha256.specs.Hash.{up_to, next_word, schedule}
use Rattle.sha256.specs.Inner.Ring.{follower, rolled}
use Rattle.sha256.proofs.ListLaws.{length_part, get_d_part}
use Rattle.sha256.proofs.ScheduleLaws.{length-up_to, length-schedule, schedule_first, schedule_next}

-- W_t to W_(t + 15) of a block's schedule, each at its place
pub record Holds (block w : List ℕ) (t : ℕ) : Type 0 where
  pub long : length w ≡ 16
  pub words : (u : ℕ) → t ≤ u → u < t + 16 → get_or w (u % 16) 0 ≡ get_or (schedule block) u 0

pub holds_first : (block w : List ℕ) → w ≡ up_to (word block) 16 → Holds block w 0
holds_first block w e = record {
  long = rw e (length-up_to (word block) 16);
  words = λ u l h.
      let same : u % 16 ≡ u = omega arith in
      rw (e, same) (sym (schedule_first block u (omega arith)));
}

-- t stands at place i, and what follows t behind it
same_place : (t q i k : ℕ) → t ≡ 16 * q + i → (i + k) % 16 ≡ (t + k) % 16
same_place t q i k e = omega arith

-- the word that takes the place of W_t is W_(t + 16)
follower_word : (block w : List ℕ) (t q i : ℕ) → Holds block w t → t ≡ 16 * q + i → i < 16 → t + 16 < 64
    → follower i w ≡ get_or (schedule block) (t + 16) 0
unfolding follower next_word
follower_word block w t q i p e h k =
    let e0 : i ≡ t % 16 = omega arith in
    let f16 : t + 16 - 16 ≡ t = omega arith in
    let f15 : t + 16 - 15 ≡ t + 1 = omega arith in
    let f7 : t + 16 - 7 ≡ t + 9 = omega arith in
    let f2 : t + 16 - 2 ≡ t + 14 = omega arith in
    let w0 : get_or w i 0 ≡ get_or (schedule block) t 0 = rw e0 (p.words t (omega arith) (omega arith)) in
    let w1 = p.words (t + 1) (omega arith) (omega arith) in
    let w9 = p.words (t + 9) (omega arith) (omega arith) in
    let w14 = p.words (t + 14) (omega arith) (omega arith) in
    let next = rw (f2, f7, f15, f16) at (schedule_next block (t + 16) (omega arith) k) in
    rw (same_place t q i 1 e, same_place t q i 9 e, same_place t q i 14 e, w0, w1, w9, w14) (sym next)

holds_next : (block w : List ℕ) (t q i : ℕ) → Holds block w t → t ≡ 16 * q + i → i < 16 → t + 16 < 64
    → Holds block (set w i (follower i w)) (suc t)
holds_next block w t q i p e h k = record {
  long = length-set w i (follower i w) ∙ p.long;
  words = λ u l m. go u l (eq-or-lt_of_le (omega arith));
}
  where
    go : (u : ℕ) → suc t ≤ u → (u ≡ t + 16) ⊎ (u < t + 16)
        → get_or (set w i (follower i w)) (u % 16) 0 ≡ get_or (schedule block) u 0
    go u l (inl s) =
        let there : u % 16 ≡ i = omega arith in
        let fits : i < length w = rw p.long h in
        rw (there, s, get_or-set_same w i (follower i w) 0 fits) (follower_word block w t q i p e h k)
    go u l (inr m) =
        let other : u % 16 ≢ i = λ s. omega arith in
        get_or-set_other w i (u % 16) (follower i w) 0 other ∙ p.words u (omega arith) m

-- n words more
holds_rolled : (n : ℕ) (block w : List ℕ) (t q i : ℕ) → Holds block w t → t ≡ 16 * q + i → i + n ≤ 16 → t + 16 + n ≤ 64
    → Holds block (rolled n i w) (t + n)
unfolding rolled
holds_rolled zero block w t q i p e h k = rw add-zero p
holds_rolled (suc n) block w t q i p e h k =
    let more : t + suc n ≡ suc t + n = omega arith in
    rw more
    (holds_rolled n block (set w i (follower i w)) (suc t) q (suc i)
    (holds_next block w t q i p e (omega arith) (omega arith))
    (omega arith) (omega arith) (omega arith))

-- eight words more
pub holds_eight : (block w v : List ℕ) (t i : ℕ) → Holds block w t → v ≡ rolled 8 i w → t % 16 ≡ i → i ≤ 8 → t + 24 ≤ 64
    → Holds block v (t + 8)
holds_eight block w v t i p r e h k =
    rw r (holds_rolled 8 block w t (t / 16) i p (omega arith) (omega arith) (omega arith))

-- so the words from t on, as far as they are held, are the schedule's
pub holds_part : (block w : List ℕ) (n t i j : ℕ) → Holds block w n → n ≤ t → t + j ≤ n + 16 → t % 16 ≡ i → i + j ≤ 16
    → t + j ≤ 64 → take j (drop i w) ≡ take j (drop t (schedule block))
holds_part block w n t i j p a b e h k =
    let W = schedule block in
    let m : length (take j (drop i w)) ≡ j = length_part w i j (rw p.long h) in
    let o : length (take j (drop t W)) ≡ j = length_part W t j (rw (length-schedule block) k) in
    ext_get_or 0 (take j (drop i w)) (take j (drop t W)) (m ∙ sym o) (λ r l.
    let lt : r < j = rw m at l in
    let there : (t + r) % 16 ≡ i + r = omega arith in
    get_d_part w i j r lt ∙ rw there at (p.words (t + r) (omega arith) (omega arith)) ∙ sym (get_d_part W t j r lt))

-- one place more of those from at on
pub rolled_more : (w : List ℕ) (n at i : ℕ) → i < n
    → rolled (n - (i + 1)) (at + (i + 1)) (set w (at + i) (follower (at + i) w)) ≡ rolled (n - i) (at + i) w
unfolding rolled
rolled_more w n at i h =
    let e : n - i ≡ suc (n - (i + 1)) = omega arith in
    let f : at + (i + 1) ≡ suc (at + i) = omega arith in
    rw (e, f)

-- what stands behind a place that was stored to
pub behind_more : (w v : List ℕ) (n x : ℕ) → drop n w ≡ drop n v → drop (n + 1) (set w n x) ≡ drop (n + 1) v
behind_more w v n x e =
    drop-set-lt (n + 1) w n x (omega arith) ∙ sym (drop-drop 1 n w) ∙ ap (drop 1) e ∙ drop-drop 1 n v

-- a word that was not stored to yet
pub word_kept : (w v : List ℕ) (at j i : ℕ) → drop (at + i) w ≡ drop (at + i) v → i < j
    → get_or w (at + i) 0 ≡ get_or (take j (drop at v)) i 0
word_kept w v at j i e h =
    let first : (l : List ℕ) → get_or (drop (at + i) l) 0 0 ≡ get_or l (at + i) 0 =
    λ l. rw add-zero at (get_or-drop (at + i) l 0 0) in
    sym (first w) ∙ ap (λ (l : List ℕ). get_or l 0 0) e ∙ first v ∙ sym (get_d_part v at j i h)
