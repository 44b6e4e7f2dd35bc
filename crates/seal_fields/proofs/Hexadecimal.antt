-- Hexadecimal characters: a number below 256 and its two tell each other.
use Prim.Native.Nat.{ℕ, ◌+◌, ◌-◌, ◌*◌, ◌/◌, ◌%◌, ◌≤◌, ◌<◌}
use Prim.Native.Char.{code}
use mathlib.Core.Path.{◌≡◌, refl, ap, ◌∙◌}
use mathlib.Core.Bool.{Bool, true, false}
use mathlib.Core.List.{[], ◌∷◌}
use native.Mathlib.Nat.{div-add-mod', mod-lt, div-lt_iff_lt-mul}
use native.Mathlib.Omega.{arith}
use borrow.Author.Tests.{leb-true, leb-false, le-leb, lt-leb}
use lib.Dec.{leb}
use Rattle.lent.proofs.Bools.{and_both}
use Rattle.zone.specs.Alphabet.{is_digit, every}
use Rattle.zone.proofs.Classes.{digit_range, in_digits, above_digits, in_letters}
use Rattle.c40.specs.Values.{is_c40}
use Rattle.c40.proofs.Coding.{digit_c40, letter_c40}
use Rattle.c40.proofs.Packing.{split}
use Rattle.seal_fields.specs.Hex.{is_hex_letter, is_hex, hex_of, hex_digit, hexadecimal}

hex_range : (c : ℕ) → is_hex_letter c ≡ true → (code "A" ≤ c) × (c ≤ code "F")
unfolding is_hex_letter
hex_range c e =
    let p = and_both (leb (code "A") c) (leb c (code "F")) e in
    (leb-true (code "A") c p.0, leb-true c (code "F") p.1)

in_hex : (c : ℕ) → code "A" ≤ c → c ≤ code "F" → is_hex_letter c ≡ true
unfolding is_hex_letter
in_hex c h k = rw (le-leb (code "A") c h, le-leb c (code "F") k)

-- a character has a number below 16, and is the one that the number has
hex_number : (c : ℕ) → is_hex c ≡ true → (hex_of c < 16) × (hex_digit (hex_of c) ≡ c)
unfolding is_hex hex_of hex_digit
hex_number c e = go (is_digit c) refl
  where
    go : (b : Bool) → is_digit c ≡ b → (hex_of c < 16) × (hex_digit (hex_of c) ≡ c)
    go true p =
        let r = digit_range c p in
        (rw p (omega arith), rw (p, le-leb (c - code "0") 9 (omega arith)) (omega arith))
    go false p =
        let q : is_hex_letter c ≡ true = rw p at e in
        let r = hex_range c q in
        (rw (p, q) (omega arith), rw (p, q, lt-leb (c - code "A" + 10) 9 (omega arith)) (omega arith))

number_hex : (d : ℕ) → d < 16 → (is_hex (hex_digit d) ≡ true) × (hex_of (hex_digit d) ≡ d)
unfolding is_hex hex_of hex_digit
number_hex d h = go (leb d 9) refl
  where
    go : (b : Bool) → leb d 9 ≡ b → (is_hex (hex_digit d) ≡ true) × (hex_of (hex_digit d) ≡ d)
    go true p =
        let k = leb-true d 9 p in
        let q = in_digits (d + code "0") (omega arith) (omega arith) in
        (rw (p, q), rw (p, q) (omega arith))
    go false p =
        let k = leb-false d 9 p in
        let q = above_digits (d - 10 + code "A") (omega arith) in
        let r = in_hex (d - 10 + code "A") (omega arith) (omega arith) in
        (rw (p, q, r), rw (p, q, r) (omega arith))

-- two characters and their number
pub two_said : (a b : ℕ) → is_hex a ≡ true → is_hex b ≡ true
    → (hex_of a * 16 + hex_of b ≤ 255) × (hexadecimal (hex_of a * 16 + hex_of b) ≡ a ∷ b ∷ [])
unfolding hexadecimal
two_said a b ha hb =
    let p = hex_number a ha in
    let q = hex_number b hb in
    let n = hex_of a * 16 + hex_of b in
    let parts = split 16 (hex_of a) (hex_of b) q.0 in
    let same : n ≡ 16 * hex_of a + hex_of b = omega arith in
    let high : hex_digit (n / 16) ≡ a = ap (λ (m : ℕ). hex_digit (m / 16)) same ∙ ap hex_digit parts.0 ∙ p.1 in
    let low : hex_digit (n % 16) ≡ b = ap (λ (m : ℕ). hex_digit (m % 16)) same ∙ ap hex_digit parts.1 ∙ q.1 in
    (omega (arith, p.0, q.0), λ i. high i ∷ low i ∷ [])

-- a number and its two characters
pub said_two : (n : ℕ) → n ≤ 255
    → (every is_hex (hexadecimal n) ≡ true) × (hex_of (hex_digit (n / 16)) * 16 + hex_of (hex_digit (n % 16)) ≡ n)
unfolding hexadecimal every
said_two n h =
    let p = number_hex (n / 16) ((div-lt_iff_lt-mul {k = 16} {x = n} {y = 16} (omega arith)).1 (omega arith)) in
    let q = number_hex (n % 16) (mod-lt n (omega arith)) in
    (rw (p.0, q.0), rw (p.1, q.1) (div-add-mod' n 16))

pub hex_c40 : (c : ℕ) → is_hex c ≡ true → is_c40 c ≡ true
unfolding is_hex
hex_c40 c e = go (is_digit c) refl
  where
    go : (b : Bool) → is_digit c ≡ b → is_c40 c ≡ true
    go true p = digit_c40 c p
    go false p =
        let r = hex_range c (rw p at e) in
        letter_c40 c (in_letters c (omega arith) (omega arith))
