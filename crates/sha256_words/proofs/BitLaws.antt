-- Formulas of bitwise operations are equal where they are equal on single bits, at any width; and two such for Ch and Maj.
use Rattle.std.proofs.Common.{◌≡◌, ℕ, zero, suc, ◌+◌, ◌-◌, ◌*◌, ◌/◌, ◌%◌, ◌^◌, ◌<◌}
use Rattle.std.proofs.Common.{sym, refl, ap, ◌∙◌, ap₂, mod-lt, mod-eq_of_lt, div-add-mod', add-one, arith, lit<, shr_lt}
use lib.Bits.{bit_and, bit_xor, and_shr, and_mod, xor_shr, xor_mod, and_comm, and_mask, xor_add_and}
use lib.Pow.{ones_lt}

-- a number below 2 is 0 or 1
bit : (P : ℕ → Type 0) → P 0 → P 1 → (x : ℕ) → x < 2 → P x
bit P p q zero h = p
bit P p q (suc zero) h = q
bit P p q (suc (suc x)) h = let no : ⊥ = omega arith in absurd no

-- what holds of all bits x, y and z
bits3 : (P : ℕ → ℕ → ℕ → Type 0)
    → P 0 0 0 → P 0 0 1 → P 0 1 0 → P 0 1 1 → P 1 0 0 → P 1 0 1 → P 1 1 0 → P 1 1 1
    → (x y z : ℕ) → x < 2 → y < 2 → z < 2 → P x y z
bits3 P a b c d e f g h x y z hx hy hz =
    bit (λ (n : ℕ). P n y z)
    (bit (λ (n : ℕ). P 0 n z) (bit (P 0 0) a b z hz) (bit (P 0 1) c d z hz) y hy)
    (bit (λ (n : ℕ). P 1 n z) (bit (P 1 0) e f z hz) (bit (P 1 1) g h z hz) y hy)
    x hx

-- a formula on three numbers that works on each bit apart
pub record Bitwise (f : ℕ → ℕ → ℕ → ℕ) : Type 0 where
  pub half : (x y z : ℕ) → f x y z / 2 ≡ f (x / 2) (y / 2) (z / 2)
  pub odd : (x y z : ℕ) → f x y z % 2 ≡ f (x % 2) (y % 2) (z % 2)

bitwise_x : Bitwise (λ x y z. x)
bitwise_x = record { half = λ x y z. refl; odd = λ x y z. refl }

bitwise_y : Bitwise (λ x y z. y)
bitwise_y = record { half = λ x y z. refl; odd = λ x y z. refl }

bitwise_z : Bitwise (λ x y z. z)
bitwise_z = record { half = λ x y z. refl; odd = λ x y z. refl }

-- its lowest bit, and the others
last_bit : (f : ℕ → ℕ → ℕ → ℕ) → Bitwise f → (x y z : ℕ)
    → f x y z ≡ f (x / 2) (y / 2) (z / 2) * 2 + f (x % 2) (y % 2) (z % 2)
last_bit f F x y z = sym (div-add-mod' (f x y z) 2) ∙ ap₂ (λ (p q : ℕ). p * 2 + q) (F.half x y z) (F.odd x y z)

half_below : {x : ℕ} (k : ℕ) → x < 2 ^ suc k → x / 2 < 2 ^ k
half_below k h = shr_lt k 1 (rw add-one h)

module _ (f g : ℕ → ℕ → ℕ → ℕ) (F : Bitwise f) (G : Bitwise g) where
  bitwise_and : Bitwise (λ x y z. bit_and (f x y z) (g x y z))
  bitwise_and = record {
    half = λ x y z. and_shr (f x y z) (g x y z) 1 ∙ ap₂ bit_and (F.half x y z) (G.half x y z);
    odd = λ x y z. and_mod (f x y z) (g x y z) 1 ∙ ap₂ bit_and (F.odd x y z) (G.odd x y z);
  }

  bitwise_xor : Bitwise (λ x y z. bit_xor (f x y z) (g x y z))
  bitwise_xor = record {
    half = λ x y z. xor_shr (f x y z) (g x y z) 1 ∙ ap₂ bit_xor (F.half x y z) (G.half x y z);
    odd = λ x y z. xor_mod (f x y z) (g x y z) 1 ∙ ap₂ bit_xor (F.odd x y z) (G.odd x y z);
  }

  -- two such formulas that agree on bits agree on words of any width
  by_bits : ((x y z : ℕ) → x < 2 → y < 2 → z < 2 → f x y z ≡ g x y z)
      → (k x y z : ℕ) → x < 2 ^ k → y < 2 ^ k → z < 2 ^ k → f x y z ≡ g x y z
  by_bits agree zero x y z hx hy hz = agree x y z (omega arith) (omega arith) (omega arith)
  by_bits agree (suc k) x y z hx hy hz =
      last_bit f F x y z
      ∙ ap₂ (λ (p q : ℕ). p * 2 + q)
      (by_bits agree k (x / 2) (y / 2) (z / 2) (half_below k hx) (half_below k hy) (half_below k hz))
      (agree (x % 2) (y % 2) (z % 2) (mod-lt x (lit< tt)) (mod-lt y (lit< tt)) (mod-lt z (lit< tt)))
      ∙ sym (last_bit g G x y z)

pub xor_assoc : (k x y z : ℕ) → x < 2 ^ k → y < 2 ^ k → z < 2 ^ k → bit_xor (bit_xor x y) z ≡ bit_xor x (bit_xor y z)
xor_assoc =
    by_bits _ _
    (bitwise_xor _ _ (bitwise_xor _ _ bitwise_x bitwise_y) bitwise_z)
    (bitwise_xor _ _ bitwise_x (bitwise_xor _ _ bitwise_y bitwise_z))
    (bits3 (λ x y z. bit_xor (bit_xor x y) z ≡ bit_xor x (bit_xor y z)) refl refl refl refl refl refl refl refl)

and_xor : (k x y z : ℕ) → x < 2 ^ k → y < 2 ^ k → z < 2 ^ k → bit_and (bit_xor x y) z ≡ bit_xor (bit_and x z) (bit_and y z)
and_xor =
    by_bits _ _
    (bitwise_and _ _ (bitwise_xor _ _ bitwise_x bitwise_y) bitwise_z)
    (bitwise_xor _ _ (bitwise_and _ _ bitwise_x bitwise_z) (bitwise_and _ _ bitwise_y bitwise_z))
    (bits3 (λ x y z. bit_and (bit_xor x y) z ≡ bit_xor (bit_and x z) (bit_and y z)) refl refl refl refl refl refl refl refl)

-- all bits turned over
turned : (k x : ℕ) → x < 2 ^ k → (2 ^ k - 1) - x ≡ bit_xor x (2 ^ k - 1)
turned k x h =
    let m = 2 ^ k - 1 in
    let same : bit_and x m ≡ x = and_mask x k ∙ mod-eq_of_lt h in
    let sum : bit_xor x m + x * 2 ≡ x + m = rw same at (xor_add_and x m) in
    omega arith

choice : (k x y z : ℕ) → x < 2 ^ k → y < 2 ^ k → z < 2 ^ k
    → bit_xor (bit_and x (bit_xor y z)) z ≡ bit_xor (bit_and x y) (bit_xor (bit_and x z) z)
choice =
    by_bits _ _
    (bitwise_xor _ _ (bitwise_and _ _ bitwise_x (bitwise_xor _ _ bitwise_y bitwise_z)) bitwise_z)
    (bitwise_xor _ _ (bitwise_and _ _ bitwise_x bitwise_y) (bitwise_xor _ _ (bitwise_and _ _ bitwise_x bitwise_z) bitwise_z))
    (bits3 (λ x y z. bit_xor (bit_and x (bit_xor y z)) z ≡ bit_xor (bit_and x y) (bit_xor (bit_and x z) z))
    refl refl refl refl refl refl refl refl)

pub choose : (k x y z : ℕ) → x < 2 ^ k → y < 2 ^ k → z < 2 ^ k
    → bit_xor (bit_and x (bit_xor y z)) z ≡ bit_xor (bit_and x y) (bit_and ((2 ^ k - 1) - x) z)
choose k x y z hx hy hz =
    let m = 2 ^ k - 1 in
    let other : bit_and (m - x) z ≡ bit_xor (bit_and x z) z =
    ap (λ (n : ℕ). bit_and n z) (turned k x hx) ∙ and_xor k x m z hx (ones_lt k) hz
    ∙ ap (bit_xor (bit_and x z)) (and_comm m z ∙ and_mask z k ∙ mod-eq_of_lt hz) in
    choice k x y z hx hy hz ∙ ap (bit_xor (bit_and x y)) (sym other)

pub majority : (k x y z : ℕ) → x < 2 ^ k → y < 2 ^ k → z < 2 ^ k
    → bit_xor (bit_and (bit_xor x y) (bit_xor y z)) y ≡ bit_xor (bit_xor (bit_and x y) (bit_and x z)) (bit_and y z)
majority =
    by_bits _ _
    (bitwise_xor _ _ (bitwise_and _ _ (bitwise_xor _ _ bitwise_x bitwise_y) (bitwise_xor _ _ bitwise_y bitwise_z)) bitwise_y)
    (bitwise_xor _ _ (bitwise_xor _ _ (bitwise_and _ _ bitwise_x bitwise_y) (bitwise_and _ _ bitwise_x bitwise_z))
    (bitwise_and _ _ bitwise_y bitwise_z))
    (bits3 (λ x y z. bit_xor (bit_and (bit_xor x y) (bit_xor y z)) y
    ≡ bit_xor (bit_xor (bit_and x y) (bit_and x z)) (bit_and y z))
    refl refl refl refl refl refl refl refl)
