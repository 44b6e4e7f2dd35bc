-- Laws on the rotation of words of any width w: what it is in numbers, that it passes through XOR, and that rotations add.
use Rattle.std.proofs.Common.{◌≡◌, ℕ, ◌+◌, ◌-◌, ◌*◌, ◌/◌, ◌%◌, ◌^◌, ◌<◌, ◌≤◌, sym, ap, ◌∙◌}
use Rattle.std.proofs.Common.{ap₂, add-zero, add_assoc, mod-lt, mul_assoc, mul_comm}
use Rattle.std.proofs.Common.{add-mul, add_comm, arith, pow_pos, pow-add, shr-shr, shr_lt}
use native.Mathlib.Nat.{mul-mod_left, mul-add-mod_self_right}
use native.Mathlib.Nat.{mul-add-div_right}
use lib.Arith.{digits_lt}
use lib.Bits.{bit_xor, or_shifted_r, xor_shr, xor_mod, xor_block, xor_lt}
use lib.Pow.{shl-shr, mod-pow-add}
use Rattle.sha256_words.specs.Words.{rotr}
use Rattle.sha256_words.proofs.BitLaws.{xor_assoc}

-- a left shift by k of a word of k + n bits keeps its n low bits
shl_kept : (k n x : ℕ) → x * 2 ^ k % 2 ^ (k + n) ≡ (x % 2 ^ n) * 2 ^ k
shl_kept k n x =
    ap (λ (m : ℕ). x * 2 ^ k % 2 ^ m) (add_comm k n) ∙ mod-pow-add (x * 2 ^ k) n k
    ∙ rw (shl-shr x k, mul-mod_left x (2 ^ k), add-zero)

-- the n low bits go to the top, and the k others down
pub rotr_split : (w k n x : ℕ) → w ≡ k + n → x < 2 ^ w → rotr w n x ≡ (x % 2 ^ n) * 2 ^ k + x / 2 ^ n
unfolding rotr
rotr_split w k n x e h =
    let f : w - n ≡ k = omega arith in
    let low : x < 2 ^ (k + n) = rw e at h in
    rw (f, e, shl_kept k n x) (or_shifted_r (x % 2 ^ n) k (x / 2 ^ n) (shr_lt k n low))

pub rotr_lt : (w n x : ℕ) → n ≤ w → x < 2 ^ w → rotr w n x < 2 ^ w
rotr_lt w n x h b =
    let e : w ≡ (w - n) + n = omega arith in
    let low : x < 2 ^ ((w - n) + n) = rw e at b in
    let p : 2 ^ w ≡ 2 ^ n * 2 ^ (w - n) = ap (λ (m : ℕ). 2 ^ m) e ∙ pow-add 2 (w - n) n ∙ mul_comm (2 ^ (w - n)) (2 ^ n) in
    rw (rotr_split w (w - n) n x e b, p) (digits_lt (mod-lt x (pow_pos n)) (shr_lt (w - n) n low))

pub rotr_xor : (w n x y : ℕ) → n ≤ w → x < 2 ^ w → y < 2 ^ w → rotr w n (bit_xor x y) ≡ bit_xor (rotr w n x) (rotr w n y)
rotr_xor w n x y h bx by =
    let k = w - n in
    let e : w ≡ k + n = omega arith in
    let lx : x < 2 ^ (k + n) = rw e at bx in
    let ly : y < 2 ^ (k + n) = rw e at by in
    rotr_split w k n (bit_xor x y) e (xor_lt w x y bx by)
    ∙ ap₂ (λ (p q : ℕ). p * 2 ^ k + q) (xor_mod x y n) (xor_shr x y n)
    ∙ sym (xor_block k (x % 2 ^ n) (y % 2 ^ n) (x / 2 ^ n) (y / 2 ^ n) (shr_lt k n lx) (shr_lt k n ly))
    ∙ ap₂ bit_xor (sym (rotr_split w k n x e bx)) (sym (rotr_split w k n y e by))

-- with c bits left over
rotr_add : (w c a b x : ℕ) → w ≡ c + (a + b) → x < 2 ^ w → rotr w a (rotr w b x) ≡ rotr w (a + b) x
rotr_add w c a b x e h =
    let ea : w ≡ (c + b) + a = omega arith in
    let eb : w ≡ (c + a) + b = omega arith in
    let A = x / 2 ^ b % 2 ^ a in
    let B = x % 2 ^ b in
    let X = x / 2 ^ (a + b) in
    let inner : rotr w b x ≡ (B * 2 ^ c) * 2 ^ a + x / 2 ^ b =
    rotr_split w (c + a) b x eb h ∙ rw (pow-add 2 c a, mul_assoc) in
    let low : (B * 2 ^ c) * 2 ^ a + x / 2 ^ b < 2 ^ w = rw inner at (rotr_lt w b x (omega arith) h) in
    let right : x / 2 ^ b / 2 ^ a ≡ X = shr-shr x b a ∙ ap (λ (n : ℕ). x / 2 ^ n) (add_comm b a) in
    let outer : rotr w a ((B * 2 ^ c) * 2 ^ a + x / 2 ^ b) ≡ A * 2 ^ (c + b) + (B * 2 ^ c + X) =
    rotr_split w (c + b) a ((B * 2 ^ c) * 2 ^ a + x / 2 ^ b) ea low
    ∙ rw (mul-add-mod_self_right (B * 2 ^ c) (2 ^ a) (x / 2 ^ b), mul-add-div_right (pow_pos a) (B * 2 ^ c) (x / 2 ^ b), right) in
    let whole : rotr w (a + b) x ≡ (A * 2 ^ b + B) * 2 ^ c + X =
    rotr_split w c (a + b) x e h ∙ rw (mod-pow-add x a b) in
    let sum : A * 2 ^ (c + b) + (B * 2 ^ c + X) ≡ (A * 2 ^ b + B) * 2 ^ c + X =
    rw (pow-add 2 c b, mul_comm (2 ^ c) (2 ^ b), add-mul, mul_assoc, add_assoc) in
    ap (rotr w a) inner ∙ outer ∙ sum ∙ sym whole

pub rotr_rotr : (w a b x : ℕ) → a + b ≤ w → x < 2 ^ w → rotr w a (rotr w b x) ≡ rotr w (a + b) x
rotr_rotr w a b x h = rotr_add w (w - (a + b)) a b x (omega arith)

-- rotations that nest
pub nest_two : (w a b x : ℕ) → a + b ≤ w → x < 2 ^ w
    → rotr w a (bit_xor x (rotr w b x)) ≡ bit_xor (rotr w a x) (rotr w (a + b) x)
nest_two w a b x h bx =
    rotr_xor w a x (rotr w b x) (omega arith) bx (rotr_lt w b x (omega arith) bx)
    ∙ ap (bit_xor (rotr w a x)) (rotr_rotr w a b x h bx)

pub nest_three : (w a b c x : ℕ) → a + (b + c) ≤ w → x < 2 ^ w
    → rotr w a (bit_xor x (rotr w b (bit_xor x (rotr w c x))))
    ≡ bit_xor (bit_xor (rotr w a x) (rotr w (a + b) x)) (rotr w (a + (b + c)) x)
nest_three w a b c x h bx =
    let P = rotr w b x in
    let Q = rotr w (b + c) x in
    let ha : a ≤ w = omega arith in
    let hab : a + b ≤ w = omega arith in
    let b_p : P < 2 ^ w = rotr_lt w b x (omega arith) bx in
    let b_q : Q < 2 ^ w = rotr_lt w (b + c) x (omega arith) bx in
    ap (λ (n : ℕ). rotr w a (bit_xor x n)) (nest_two w b c x (omega arith) bx)
    ∙ rotr_xor w a x (bit_xor P Q) ha bx (xor_lt w P Q b_p b_q)
    ∙ ap (bit_xor (rotr w a x))
    (rotr_xor w a P Q ha b_p b_q ∙ ap₂ bit_xor (rotr_rotr w a b x hab bx) (rotr_rotr w a (b + c) x h bx))
    ∙ sym (xor_assoc w (rotr w a x) (rotr w (a + b) x) (rotr w (a + (b + c)) x)
    (rotr_lt w a x ha bx) (rotr_lt w (a + b) x hab bx) (rotr_lt w (a + (b + c)) x h bx))
