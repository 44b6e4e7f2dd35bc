-- Laws on bits written one number after the other and gathered by eights.
use mathlib.Core.Path.{◌≡◌, refl, ap, ap₂, sym, ◌∙◌}
use mathlib.Core.Bool.{Bool, true, false, cond}
use mathlib.Core.List.{List, [], ◌∷◌}
use Prim.Native.Nat.{ℕ, zero, suc, ◌+◌, ◌-◌, ◌*◌, ◌/◌, ◌%◌, ◌^◌, ◌≤◌, ◌<◌}
use native.Mathlib.Nat.{zero-add, suc-add, add_comm, pow-suc, mul_comm, add-mul, mul_assoc, mul-add-div_right}
use native.Mathlib.Nat.{mul-add-mod_self_right, div-add-mod'}
use native.Mathlib.Omega.{arith}
use native.Mathlib.Numerals.{one-add}
use borrow.Author.Tests.{eq-eqb, ne_eqb, eqb-true, eqb-false}
use lib.Dec.{eqb, eqb-suc-zero}
use lib.ListN.{length}
use lib.Pow.{pow_pos, pow-add, mod-pow-add, shr-shr, shr_mod}
use Rattle.cells.specs.Bits.{put, gathered}

-- ---- a number in bits

-- its high bits, then its low ones
pub put_split : (k w v : ℕ) (t : List ℕ) → put (k + w) v t ≡ put k (v / 2 ^ w) (put w v t)
unfolding put
put_split zero w v t = rw (zero-add w)
put_split (suc k) w v t = rw (suc-add k w, put_split k w v t, shr-shr v w k, add_comm k w)

-- what stands above its bits is not written
pub put_above : (w a v : ℕ) (t : List ℕ) → put w (a * 2 ^ w + v) t ≡ put w v t
unfolding put
put_above zero a v t = refl
put_above (suc w) a v t =
    let e : a * 2 ^ suc w ≡ a * 2 * 2 ^ w = ap (λ (x : ℕ). a * x) (pow-suc 2 w ∙ mul_comm (2 ^ w) 2)
    ∙ sym (mul_assoc a 2 (2 ^ w)) in
    let b : (a * 2 * 2 ^ w + v) / 2 ^ w % 2 ≡ v / 2 ^ w % 2 =
    ap (λ (x : ℕ). x % 2) (mul-add-div_right (pow_pos w) (a * 2) v) ∙ mul-add-mod_self_right a 2 (v / 2 ^ w) in
    rw e (ap₂ ◌∷◌ b (put_above w (a * 2) v t))

pub put_low : (w v : ℕ) (t : List ℕ) → put w (v % 2 ^ w) t ≡ put w v t
put_low w v t = sym (put_above w (v / 2 ^ w) (v % 2 ^ w) t) ∙ ap (λ (x : ℕ). put w x t) (div-add-mod' v (2 ^ w))

-- both at once
pub put_halves : (k w v : ℕ) (t : List ℕ) → put k (v / 2 ^ w) (put w (v % 2 ^ w) t) ≡ put (k + w) v t
put_halves k w v t = ap (put k (v / 2 ^ w)) (put_low w v t) ∙ sym (put_split k w v t)

-- ---- gathered by eights

gathered_bit : (n v b : ℕ) (t : List ℕ) → n < 7 → gathered n v (b ∷ t) ≡ gathered (suc n) (v * 2 + b) t
unfolding gathered
gathered_bit n v b t h = rw (ne_eqb n 7 (λ e. omega arith))

gathered_last : (n v b : ℕ) (t : List ℕ) → n ≡ 7 → gathered n v (b ∷ t) ≡ (v * 2 + b) ∷ gathered 0 0 t
unfolding gathered
gathered_last n v b t h = rw (eq-eqb n 7 h)

-- one more bit of a number, from the most significant on
bit_more : (w v x : ℕ) → (v * 2 + x / 2 ^ w % 2) * 2 ^ w + x % 2 ^ w ≡ v * 2 ^ suc w + x % 2 ^ suc w
bit_more w v x =
    let m : x % 2 ^ suc w ≡ x / 2 ^ w % 2 * 2 ^ w + x % 2 ^ w = rw one-add at (mod-pow-add x 1 w) in
    let e : v * 2 ^ suc w ≡ v * 2 * 2 ^ w = ap (λ (y : ℕ). v * y) (pow-suc 2 w ∙ mul_comm (2 ^ w) 2)
    ∙ sym (mul_assoc v 2 (2 ^ w)) in
    rw (m, e, add-mul (v * 2) (x / 2 ^ w % 2) (2 ^ w)) (omega arith)

-- bits that do not fill the octet under way
gathered_few : (w n v x : ℕ) (t : List ℕ) → n + w < 8 → gathered n v (put w x t) ≡ gathered (n + w) (v * 2 ^ w + x % 2 ^ w) t
unfolding put
gathered_few zero n v x t h =
    let e : n + 0 ≡ n = omega arith in
    let f : v * 2 ^ 0 + x % 2 ^ 0 ≡ v = omega arith in
    rw (e, f)
gathered_few (suc w) n v x t h =
    let b = x / 2 ^ w % 2 in
    let e : suc n + w ≡ n + suc w = omega arith in
    gathered_bit n v b (put w x t) (omega arith)
    ∙ gathered_few w (suc n) (v * 2 + b) x t (omega arith)
    ∙ ap₂ (λ (k y : ℕ). gathered k y t) e (bit_more w v x)

-- bits that just fill it
gathered_eight : (w n v x : ℕ) (t : List ℕ) → n < 8 → n + w ≡ 8
    → gathered n v (put w x t) ≡ (v * 2 ^ w + x % 2 ^ w) ∷ gathered 0 0 t
unfolding put
gathered_eight zero n v x t l h = absurd (omega arith)
gathered_eight (suc zero) n v x t l h = gathered_last n v (x / 2 ^ 0 % 2) t (omega arith)
    ∙ ap (λ (y : ℕ). y ∷ gathered 0 0 t) (omega arith)
gathered_eight (suc (suc w)) n v x t l h =
    let b = x / 2 ^ suc w % 2 in
    gathered_bit n v b (put (suc w) x t) (omega arith)
    ∙ gathered_eight (suc w) (suc n) (v * 2 + b) x t (omega arith) (omega arith)
    ∙ ap (λ (y : ℕ). y ∷ gathered 0 0 t) (bit_more (suc w) v x)

-- ---- a number behind what is at hand

over : (n v j k x : ℕ) (t : List ℕ) → n < 8 → n + j ≡ 8 → k < 8 → x < 2 ^ (j + k)
    → gathered n v (put (j + k) x t)
    ≡ ((v * 2 ^ (j + k) + x) / 2 ^ k) ∷ gathered k ((v * 2 ^ (j + k) + x) % 2 ^ k) t
over n v j k x t l e s h =
    let p : v * 2 ^ (j + k) + x ≡ v * 2 ^ j * 2 ^ k + x =
    ap (λ (y : ℕ). y + x) (ap (λ (y : ℕ). v * y) (pow-add 2 j k) ∙ sym (mul_assoc v (2 ^ j) (2 ^ k))) in
    let i : v * 2 ^ j + x / 2 ^ k % 2 ^ j ≡ v * 2 ^ j + x / 2 ^ k = ap (λ (y : ℕ). v * 2 ^ j + y) (shr_mod j k h) in
    let z : 0 * 2 ^ k + x % 2 ^ k ≡ x % 2 ^ k = omega arith in
    let f : gathered 0 0 (put k x t) ≡ gathered k (x % 2 ^ k) t = rw (zero-add k, z) at (gathered_few k 0 0 x t (omega arith)) in
    ap (gathered n v) (put_split j k x t)
    ∙ gathered_eight j n v (x / 2 ^ k) (put k x t) l e
    ∙ rw (p, mul-add-div_right (pow_pos k) (v * 2 ^ j) x, mul-add-mod_self_right (v * 2 ^ j) (2 ^ k) x) (ap₂ ◌∷◌ i f)

pub gathered_over : (n v w x : ℕ) (t : List ℕ) → n < 8 → w ≤ 8 → 8 ≤ n + w → x < 2 ^ w
    → gathered n v (put w x t)
    ≡ ((v * 2 ^ w + x) / 2 ^ (n + w - 8)) ∷ gathered (n + w - 8) ((v * 2 ^ w + x) % 2 ^ (n + w - 8)) t
gathered_over n v w x t l m g h =
    let e : (8 - n) + (n + w - 8) ≡ w = omega arith in
    rw e at (over n v (8 - n) (n + w - 8) x t l (omega arith) (omega arith) (rw e h))

-- ---- lengths

pub length-put : (w v : ℕ) (t : List ℕ) → length (put w v t) ≡ w + length t
unfolding put
length-put zero v t = omega arith
length-put (suc w) v t = rw (length-put w v t) (omega arith)

-- bits rounded up to octets
pub length-gathered : (n v : ℕ) (t : List ℕ) → n < 8 → length (gathered n v t) ≡ (n + length t + 7) / 8
unfolding gathered
length-gathered zero v [] h = omega arith
length-gathered (suc n) v [] h = rw (eqb-suc-zero n) (omega arith)
length-gathered n v (b ∷ t) h = go (eqb n 7) refl (length-gathered 0 0 t (omega arith)) (length-gathered (suc n) (v * 2 + b) t)
  where
    go : (d : Bool) → eqb n 7 ≡ d → length (gathered 0 0 t) ≡ (0 + length t + 7) / 8
        → (suc n < 8 → length (gathered (suc n) (v * 2 + b) t) ≡ (suc n + length t + 7) / 8)
        → length (cond d ((v * 2 + b) ∷ gathered 0 0 t) (gathered (suc n) (v * 2 + b) t)) ≡ (n + suc (length t) + 7) / 8
    go true d e f = let s : n ≡ 7 = eqb-true n 7 d in omega arith
    go false d e f =
        let s : n ≡ 7 → ⊥ = eqb-false n 7 d in
        let l : suc n < 8 = omega arith in
        f l ∙ omega arith
