-- Laws on the schedule as the paper has it: which word stands at each place.
use mathlib.Core.Path.{◌≡◌, refl, ap, sym, ◌∙◌}
use mathlib.Core.List.{List, [], ◌∷◌, ◌++◌}
use Prim.Native.Nat.{ℕ, zero, suc, ◌+◌, ◌-◌, ◌≤◌, ◌<◌}
use native.Mathlib.Nat.{zero-add, suc-add, add-zero}
use native.Mathlib.Numerals.{add-one}
use native.Mathlib.Omega.{arith}
use lib.ListN.{length, take, get_or, set, length-append, get_or-append}
use lib.Seq.{take-suc-set, get_or-take, get_or_at, take-length, take-take, take-append_seam}
use Rattle.sha256.specs.Parsing.{word}
use Rattle.sha256.specs.Hash.{up_to, next_word, extended, schedule}

pub up_to_more : (f : ℕ → ℕ) (w : List ℕ) (t : ℕ) → t < length w → take t w ≡ up_to f t
    → take (t + 1) (set w t (f t)) ≡ up_to f (t + 1)
unfolding up_to
up_to_more f w t h e = rw (add-one, take-suc-set w t (f t), e)

pub length-up_to : (f : ℕ → ℕ) (n : ℕ) → length (up_to f n) ≡ n
unfolding up_to
length-up_to f zero = refl
length-up_to f (suc n) = simp (length-append, length-up_to f n, add-one)

length-extended : (m : ℕ) (x : List ℕ) → length (extended m x) ≡ length x + m
unfolding extended
length-extended zero x = rw add-zero
length-extended (suc m) x =
    length-extended m (x ++ (next_word (length x) x ∷ [])) ∙ simp length-append (omega arith)

pub length-schedule : (block : List ℕ) → length (schedule block) ≡ 64
unfolding schedule
length-schedule block = rw (length-extended 48 (up_to (word block) 16), length-up_to (word block) 16)

-- the words that were there stay in front
extended_front : (m : ℕ) (x : List ℕ) → take (length x) (extended m x) ≡ x
unfolding extended
extended_front zero x = take-length x
extended_front (suc m) x =
    let y = x ++ (next_word (length x) x ∷ []) in
    let le : length x ≤ length y = simp length-append (omega arith) in
    sym (take-take (length x) (length y) (extended m y) le)
    ∙ ap (take (length x)) (extended_front m y) ∙ take-append_seam x (next_word (length x) x ∷ [])

extended_kept : (m : ℕ) (x : List ℕ) (t : ℕ) → t < length x → get_or (extended m x) t 0 ≡ get_or x t 0
extended_kept m x t h =
    sym (get_or-take (length x) (extended m x) t 0 h) ∙ ap (λ (l : List ℕ). get_or l t 0) (extended_front m x)

extended_add : (m n : ℕ) (x : List ℕ) → extended (m + n) x ≡ extended n (extended m x)
unfolding extended
extended_add zero n x = rw zero-add
extended_add (suc m) n x = rw suc-add (extended_add m n (x ++ (next_word (length x) x ∷ [])))

-- W_0 to W_15
pub schedule_first : (block : List ℕ) (t : ℕ) → t < 16 → get_or (schedule block) t 0 ≡ get_or (up_to (word block) 16) t 0
unfolding schedule
schedule_first block t h = extended_kept 48 (up_to (word block) 16) t (rw (length-up_to (word block) 16) h)

-- W_t looks at words before it only
next_word_before : (v w : List ℕ) (t : ℕ) → 16 ≤ t → ((i : ℕ) → i < t → get_or v i 0 ≡ get_or w i 0)
    → next_word t v ≡ next_word t w
unfolding next_word
next_word_before v w t h e =
    rw (e (t - 2) (omega arith), e (t - 7) (omega arith), e (t - 15) (omega arith), e (t - 16) (omega arith))

-- a word that is put behind the others is the next one's, however many follow
extended_next : (m : ℕ) (x : List ℕ) → 16 ≤ length x
    → get_or (extended (suc m) x) (length x) 0 ≡ next_word (length x) (extended (suc m) x)
unfolding extended
extended_next m x h =
    let t = length x in
    let y = x ++ (next_word t x ∷ []) in
    let n : length y ≡ t + 1 = length-append x (next_word t x ∷ []) in
    let kept : (i : ℕ) → i < t → get_or x i 0 ≡ get_or (extended m y) i 0 =
    λ i l. sym (get_or-append x (next_word t x ∷ []) 0 i l) ∙ sym (extended_kept m y i (omega arith)) in
    extended_kept m y t (omega arith) ∙ get_or_at x (next_word t x) [] 0 t refl ∙ next_word_before x (extended m y) t h kept

-- W_16 to W_63
pub schedule_next : (block : List ℕ) (t : ℕ) → 16 ≤ t → t < 64 → get_or (schedule block) t 0 ≡ next_word t (schedule block)
unfolding schedule
schedule_next block t h k =
    let x = up_to (word block) 16 in
    let v = extended (t - 16) x in
    let n : length v ≡ t = length-extended (t - 16) x ∙ rw (length-up_to (word block) 16) (omega arith) in
    let e : 48 ≡ (t - 16) + suc (63 - t) = omega arith in
    let all : extended 48 x ≡ extended (suc (63 - t)) v =
    ap (λ (m : ℕ). extended m x) e ∙ extended_add (t - 16) (suc (63 - t)) x in
    rw all (rw n at (extended_next (63 - t) v (rw n h)))
