-- Bits, and four characters in four octets, as the code works them out.
use Prim.Native.Nat.{ℕ, zero, suc, ◌+◌, ◌-◌, ◌*◌, ◌/◌, ◌%◌, ◌^◌, ◌≤◌, ◌<◌}
use mathlib.Core.Path.{◌≡◌, ap, sym, ◌∙◌}
use mathlib.Core.List.{List, ◌++◌}
use mathlib.Core.Logic.{inl}
use native.Mathlib.Nat.{mod-eq_of_lt, one-mul}
use native.Mathlib.Numerals.{unary_clauses}
use native.Mathlib.Omega.{arith}
use borrow.Author.Tests.{le-leb, lt-ltb}
use lib.ListN.{length, take, drop, get_or, set, length-map}
use lib.Pow.{pow_pos, pow-lt}
use Rattle.lent.specs.Copied.{copied}
use Rattle.lent.proofs.Lists.{copy_more, copy_ends}
use Rattle.zone.specs.Codes.{character_of}
use Rattle.cells.specs.Bits.{bits_at}
use Rattle.cells.specs.Cells.{numbers_at}
use Rattle.cells.proofs.ReadingBack.{length-numbers}
use Rattle.cells.proofs.Shifts.{bits_below, bits_joined, bits_within_lem, octet_read, octet_more}
use Rattle.units.specs.Unpacked.{bits_within, characters_at, unpacked_over}

-- ---- up to sixteen bits

-- a power of two that a word of 32 bits holds
power_kept : (w : ℕ) → w < 32 → 1 * 2 ^ w % 2 ^ 32 ≡ 2 ^ w
power_kept w h = ap (λ (x : ℕ). x % 2 ^ 32) (one-mul (2 ^ w)) ∙ mod-eq_of_lt (pow-lt h)

pub power_kept_above : (w : ℕ) → w < 32 → 0 < 1 * 2 ^ w % 2 ^ 32
power_kept_above w h = rw (power_kept w h) (pow_pos w)

pub two_octets : (s : List ℕ) (j x y : ℕ) → x ≡ get_or s j 0 → y ≡ get_or s (j + 1) 0 → x < 256 → y < 256
    → x * 256 + y ≡ bits_at s (8 * j) 16
two_octets s j x y p q hx hy = sym (octet_more s j 1 (rw q at hy) ∙ rw (octet_read s j (rw p at hx), p, q))

-- the bits of any place, from the two octets that hold them
pub bits_read : (s : List ℕ) (at w x y : ℕ) → at % 8 + w ≤ 16 → x ≡ get_or s (at / 8) 0 → y ≡ get_or s (at / 8 + 1) 0 → x < 256
    → y < 256 → (x * 256 + y) / 2 ^ (16 - at % 8 - w) % (1 * 2 ^ w % 2 ^ 32) ≡ bits_at s at w
bits_read s at w x y h p q hx hy =
    let m = 16 - at % 8 - w in
    let e : 8 * (at / 8) + at % 8 ≡ at = omega arith in
    let k : 16 ≡ at % 8 + w + m = omega arith in
    let l : w < 32 = omega arith in
    rw (power_kept w l, two_octets s (at / 8) x y p q hx hy)
    (ap (λ (n : ℕ). bits_at s (8 * (at / 8)) n / 2 ^ m % 2 ^ w) k ∙ bits_within_lem s (8 * (at / 8)) (at % 8) w m
    ∙ ap (λ (n : ℕ). bits_at s n w) e)

-- ---- four octets

pub four_octets : (s : List ℕ) (j x y z u : ℕ) → x ≡ get_or s j 0 → y ≡ get_or s (j + 1) 0 → z ≡ get_or s (j + 2) 0
    → u ≡ get_or s (j + 3) 0 → x < 256 → y < 256 → z < 256 → u < 256
    → ((x * 256 + y) * 256 + z) * 256 + u ≡ bits_at s (8 * j) 32
four_octets s j x y z u p q r t hx hy hz hu =
    sym (octet_more s j 3 (rw t at hu)
    ∙ rw (octet_more s j 2 (rw r at hz), ← two_octets s j x y p q hx hy, r, t))

-- 24 bits of them
pub within_four : (s : List ℕ) (j b : ℕ) → b < 8 → bits_at s (8 * j) 32 / 2 ^ (8 - b) % 16777216 ≡ bits_at s (8 * j + b) 24
within_four s j b h =
    let k : 32 ≡ b + 24 + (8 - b) = omega arith in
    ap (λ (n : ℕ). bits_at s (8 * j) n / 2 ^ (8 - b) % 2 ^ 24) k ∙ bits_within_lem s (8 * j) b 24 (8 - b)

-- and the four units that they are
pub record Four (s : List ℕ) (k number : ℕ) : Type 0 where
  pub first : number / 262144 ≡ bits_at s k 6
  pub second : number / 4096 % 64 ≡ bits_at s (k + 6) 6
  pub third : number / 64 % 64 ≡ bits_at s (k + 12) 6
  pub fourth : number % 64 ≡ bits_at s (k + 18) 6

pub four_read : (s : List ℕ) (k number : ℕ) → number ≡ bits_at s k 24 → Four s k number
four_read s k number e =
    let f : k + 6 + 6 ≡ k + 12 = omega arith in
    let g : k + 12 + 6 ≡ k + 18 = omega arith in
    let p : bits_at s k 24 ≡ bits_at s k 6 * 262144 + bits_at s (k + 6) 18 = bits_joined s k 6 18 in
    let q : bits_at s (k + 6) 18 ≡ bits_at s (k + 6) 6 * 4096 + bits_at s (k + 12) 12 = rw f at (bits_joined s (k + 6) 6 12) in
    let r : bits_at s (k + 12) 12 ≡ bits_at s (k + 12) 6 * 64 + bits_at s (k + 18) 6 = rw g at (bits_joined s (k + 12) 6 6) in
    let w = bits_below s k 6 in
    let x = bits_below s (k + 6) 6 in
    let y = bits_below s (k + 12) 6 in
    let z = bits_below s (k + 18) 6 in
    record { first = omega arith; second = omega arith; third = omega arith; fourth = omega arith }

-- ---- characters

pub length-characters : (s : List ℕ) (k n : ℕ) → length (characters_at s k n) ≡ n
length-characters s k n = length-map (numbers_at s k n 6) character_of ∙ length-numbers s k n 6

pub get_d_characters : (s : List ℕ) (k n i : ℕ) → i < n
    → get_or (characters_at s k n) i 0 ≡ character_of (bits_at s (k + 6 * i) 6)
unfolding numbers_at
get_d_characters s k zero i h = absurd (omega arith)
get_d_characters s k (suc n) zero h = simp unary_clauses
get_d_characters s k (suc n) (suc i) h =
    let e : k + 6 + 6 * i ≡ k + 6 * suc i = omega arith in
    get_d_characters s (k + 6) n i (omega arith) ∙ ap (λ (x : ℕ). character_of (bits_at s x 6)) e

-- one more of them at the front of a range
one_more_lem : (to s : List ℕ) (k n i c : ℕ) → i < length to → i < n → c ≡ bits_at s (k + 6 * i) 6
    → set (take i (characters_at s k n) ++ drop i to) i (character_of c) ≡ take (i + 1) (characters_at s k n) ++ drop (i + 1) to
one_more_lem to s k n i c ht hn e =
    let h : i < length (characters_at s k n) = rw (length-characters s k n) hn in
    rw (e, ← get_d_characters s k n i hn) (copy_more to (characters_at s k n) i ht h)

-- four more
pub unpack_more : (to s : List ℕ) (at fours i number : ℕ) → 4 * fours ≤ length to → i < fours → Four s (at + 24 * i) number
    → set (set (set (set (take (4 * i) (characters_at s at (4 * fours)) ++ drop (4 * i) to)
    (4 * i) (character_of (number / 262144))) (4 * i + 1) (character_of (number / 4096 % 64)))
    (4 * i + 2) (character_of (number / 64 % 64))) (4 * i + 3) (character_of (number % 64))
    ≡ take (4 * (i + 1)) (characters_at s at (4 * fours)) ++ drop (4 * (i + 1)) to
unpack_more to s at fours i number h l four =
    let n = 4 * fours in
    let e : 4 * (i + 1) ≡ 4 * i + 3 + 1 = omega arith in
    let f : 4 * i + 1 + 1 ≡ 4 * i + 2 = omega arith in
    let g : 4 * i + 2 + 1 ≡ 4 * i + 3 = omega arith in
    let a : at + 24 * i ≡ at + 6 * (4 * i) = omega arith in
    let b : at + 24 * i + 6 ≡ at + 6 * (4 * i + 1) = omega arith in
    let c : at + 24 * i + 12 ≡ at + 6 * (4 * i + 2) = omega arith in
    let d : at + 24 * i + 18 ≡ at + 6 * (4 * i + 3) = omega arith in
    let one = one_more_lem to s at n (4 * i) (number / 262144) (omega arith) (omega arith)
    (four.first ∙ ap (λ (x : ℕ). bits_at s x 6) a) in
    let two = one_more_lem to s at n (4 * i + 1) (number / 4096 % 64) (omega arith) (omega arith)
    (four.second ∙ ap (λ (x : ℕ). bits_at s x 6) b) in
    let three = one_more_lem to s at n (4 * i + 2) (number / 64 % 64) (omega arith) (omega arith)
    (four.third ∙ ap (λ (x : ℕ). bits_at s x 6) c) in
    let last = one_more_lem to s at n (4 * i + 3) (number % 64) (omega arith) (omega arith)
    (four.fourth ∙ ap (λ (x : ℕ). bits_at s x 6) d) in
    rw (one, two, f, three, g, last, e)

pub unpack_ends : (to s : List ℕ) (at fours i : ℕ) → 4 * fours ≤ length to → i ≡ fours
    → take (4 * i) (characters_at s at (4 * fours)) ++ drop (4 * i) to ≡ copied to (characters_at s at (4 * fours))
unpack_ends to s at fours i h e =
    let long = length-characters s at (4 * fours) in
    copy_ends to (characters_at s at (4 * fours)) (4 * i) (omega arith) (omega arith) (inl (omega arith))

-- ---- where there is room

pub unpack_room : (at fours : ℕ) (to s : List ℕ) → fours ≤ length to / 4 → at / 8 + 3 * fours < length s
    → unpacked_over at fours to s ≡ copied to (characters_at s at (4 * fours))
unfolding unpacked_over
unpack_room at fours to s h l = rw (le-leb fours (length to / 4) h, lt-ltb (at / 8 + 3 * fours) (length s) l)

pub bits_room : (s : List ℕ) (k w : ℕ) → k % 8 + w ≤ 16 → bits_within s k w ≡ bits_at s k w
unfolding bits_within
bits_room s k w h = rw (le-leb w (16 - k % 8) (omega arith))
