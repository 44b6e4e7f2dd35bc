-- Laws on the rounds along a list of constants and a list of words: one round more, and some of them at a time.
use mathlib.Core.Path.{◌≡◌, refl, ap₂, sym, ◌∙◌}
use mathlib.Core.List.{List, [], ◌∷◌, ◌++◌}
use Prim.Native.Nat.{ℕ, ◌+◌, ◌%◌, ◌≤◌, ◌<◌}
use native.Mathlib.Numerals.{add-one}
use native.Mathlib.Omega.{arith}
use lib.ListN.{length, take, drop, get_or, drop_of_length-le}
use lib.Seq.{drop-cons}
use Rattle.sha256.specs.Constants.{K}
use Rattle.sha256.specs.Hash.{round, rounds, schedule}
use Rattle.sha256.specs.declared.rounds.Working.{Working}
use Rattle.sha256.proofs.ScheduleLaws.{length-schedule}
use Rattle.sha256.proofs.RingLaws.{Holds, holds_part}
use Rattle.sha256.proofs.ListLaws.{parted, length_part}

pub length_K : length K ≡ 64
unfolding K
length_K = refl

-- one round more
pub rounds_more : (k w : List ℕ) (t : ℕ) (s : Working) → t < length k → t < length w
    → rounds (drop (t + 1) k) (drop (t + 1) w) (round (get_or k t 0) (get_or w t 0) s) ≡ rounds (drop t k) (drop t w) s
unfolding rounds
rounds_more k w t s hk hw = rw (add-one, drop-cons k t 0 hk, drop-cons w t 0 hw)

-- none is left
pub rounds_done : (k w : List ℕ) (t : ℕ) (s : Working) → length k ≤ t → rounds (drop t k) (drop t w) s ≡ s
unfolding rounds
rounds_done k w t s h = rw (drop_of_length-le k h)

rounds_append : (a b c d : List ℕ) (s : Working) → length a ≡ length c → rounds (a ++ b) (c ++ d) s ≡ rounds b d (rounds a c s)
unfolding rounds
rounds_append [] b [] d s e = refl
rounds_append [] b (x ∷ c) d s e = let no : ⊥ = omega arith in absurd no
rounds_append (k ∷ a) b [] d s e = let no : ⊥ = omega arith in absurd no
rounds_append (k ∷ a) b (x ∷ c) d s e = rounds_append a b c d (round k x s) (omega arith)

-- n rounds at a time
pub rounds_part : (k w : List ℕ) (t n : ℕ) (s : Working) → t + n ≤ length k → t + n ≤ length w
    → rounds (drop (t + n) k) (drop (t + n) w) (rounds (take n (drop t k)) (take n (drop t w)) s) ≡ rounds (drop t k) (drop t w) s
rounds_part k w t n s hk hw =
    sym (rounds_append (take n (drop t k)) (drop (t + n) k) (take n (drop t w)) (drop (t + n) w) s
    (length_part k t n hk ∙ sym (length_part w t n hw)))
    ∙ ap₂ (λ (a b : List ℕ). rounds a b s) (parted k t n) (parted w t n)

-- eight rounds on words that the ring holds, from place i on, are eight of the block's
pub rounds_turn : (block w : List ℕ) (n t i : ℕ) (s : Working) → Holds block w n → n ≤ t → t + 8 ≤ n + 16
    → t % 16 ≡ i → i ≤ 8 → t + 8 ≤ 64
    → rounds (drop (t + 8) K) (drop (t + 8) (schedule block)) (rounds (take 8 (drop t K)) (take 8 (drop i w)) s)
    ≡ rounds (drop t K) (drop t (schedule block)) s
rounds_turn block w n t i s p a b e h k =
    let hk : t + 8 ≤ length K = rw length_K k in
    let hw : t + 8 ≤ length (schedule block) = rw (length-schedule block) k in
    rw (holds_part block w n t i 8 p a b e (omega arith) k) (rounds_part K (schedule block) t 8 s hk hw)
