-- Writing an image: what is left from a place on, stored behind what was stored before, gives the same as the whole.
use Prim.Native.Nat.{ℕ, zero, suc, ◌+◌, ◌-◌, ◌*◌, ◌/◌, ◌%◌, ◌≤◌, ◌<◌}
use Prim.Native.Char.{code}
use mathlib.Core.Path.{◌≡◌, refl, sym, ap, ◌∙◌}
use mathlib.Core.Bool.{Bool, true, false, cond}
use mathlib.Core.List.{List, [], ◌∷◌, ◌++◌, append-nil}
use native.Mathlib.Nat.{zero-add, mod-mod, mod-eq_of_lt, mod-lt}
use native.Mathlib.Omega.{arith}
use lib.Dec.{ltb}
use lib.ListN.{length, take, drop, get_or, set, length-map, length-drop}
use lib.Seq.{sets, sets-eq, take_all, drop-drop, drop-length, length-take-le}
use borrow.Author.Tests.{ltb-true, le-leb}
use Rattle.lent.specs.Copied.{copied_at}
use Rattle.lent.proofs.Bools.{and_both}
use Rattle.lent.proofs.Copies.{copied_there}
use Rattle.zone.specs.Alphabet.{is_digit, is_letter, every}
use Rattle.zone.specs.Octets.{is_octet, AreOctets}
use Rattle.zone.proofs.Classes.{digit_range, letter_range}
use Rattle.c40.specs.Values.{is_c40, value_of}
use Rattle.c40.specs.Image.{packed, pair, image_of}
use Rattle.c40.specs.Field.{octets_for}
use Rattle.c40.specs.Inner.Imaged.{reduced, imaged, image_put}
use Rattle.c40.proofs.Packing.{split}
use Rattle.c40.proofs.Images.{image_length, pair_octets, packed_most, image_octets}

-- octets are what they are
pub reduced_octets : (s : List ℕ) → AreOctets s → reduced s ≡ s
unfolding reduced every is_octet
reduced_octets [] h = refl
reduced_octets (c ∷ s) h =
    let p = and_both (ltb c 256) (every is_octet s) h in
    let one : c % 256 ≡ c = mod-eq_of_lt (ltb-true c 256 p.0) in
    let more = reduced_octets s p.1 in
    λ i. one i ∷ more i

-- so of a text it is the image
pub imaged_text : (t : List ℕ) → every is_c40 t ≡ true → imaged t ≡ image_of t
unfolding imaged
imaged_text t h = reduced_octets (image_of t) (image_octets t h)

-- and so it is of any octets that are threes, since every one of them has a value
value_bound : (c : ℕ) → value_of c ≤ 39
unfolding value_of
value_bound c = go (is_digit c) refl (is_letter c) refl
  where
    go : (a : Bool) → is_digit c ≡ a → (b : Bool) → is_letter c ≡ b
        → cond a (c - code "0" + 4) (cond b (c - code "A" + 14) 3) ≤ 39
    go true p b q = omega (arith, (digit_range c p).1)
    go false p true q = omega (arith, (letter_range c q).1)
    go false p false q = omega arith

threes_octets : (k : ℕ) (t : List ℕ) → length t ≡ 3 * k → AreOctets (image_of t)
unfolding image_of every
threes_octets k [] e = refl
threes_octets k (c ∷ []) e = absurd (omega arith)
threes_octets k (c ∷ d ∷ []) e = absurd (omega arith)
threes_octets zero (c ∷ d ∷ f ∷ t) e = absurd (omega arith)
threes_octets (suc k) (c ∷ d ∷ f ∷ t) e =
    pair_octets (packed (value_of c) (value_of d) (value_of f)) (image_of t)
    (packed_most (value_of c) (value_of d) (value_of f) (value_bound c) (value_bound d) (value_bound f))
    (threes_octets k t (omega arith))

pub imaged_threes : (k : ℕ) (t : List ℕ) → length t ≡ 3 * k → imaged t ≡ image_of t
unfolding imaged
imaged_threes k t e = reduced_octets (image_of t) (threes_octets k t e)

pub imaged_length : (t : List ℕ) → length (imaged t) ≡ octets_for (length t)
unfolding imaged reduced octets_for
imaged_length t = length-map (image_of t) _ ∙ image_length t

-- two octets of a number, and then others
pub pair_reduced : (n : ℕ) (l : List ℕ) → reduced (pair n l) ≡ (n / 256 % 256) ∷ (n % 256) ∷ reduced l
unfolding reduced pair
pair_reduced n l = rw (mod-mod n 256)

-- they are stored, and the others behind them
pub pair_stored : (l : List ℕ) (n x : ℕ) (r : List ℕ)
    → sets (set (set l n (x / 256 % 256)) (n + 1) (x % 256)) (n + 2) r ≡ sets l n ((x / 256 % 256) ∷ (x % 256) ∷ r)
pair_stored l n x r =
    let one : n + 1 ≡ suc n = omega arith in
    let two : n + 2 ≡ suc (suc n) = omega arith in
    rw (one, two)

-- what is left: three characters and others, two, one or none
pub three_and_rest : (s : List ℕ) → 3 ≤ length s → s ≡ get_or s 0 0 ∷ get_or s 1 0 ∷ get_or s 2 0 ∷ take (length s - 3) (drop 3 s)
three_and_rest [] h = absurd (omega arith)
three_and_rest (a ∷ []) h = absurd (omega arith)
three_and_rest (a ∷ b ∷ []) h = absurd (omega arith)
three_and_rest (a ∷ b ∷ c ∷ s) h =
    let e : suc (suc (suc (length s))) - 3 ≡ length s = omega arith in
    rw (e, take_all (length s) s (omega arith))

pub imaged_two : (s : List ℕ) → length s ≡ 2
    → imaged s ≡ (packed (value_of (get_or s 0 0)) (value_of (get_or s 1 0)) 0 / 256 % 256)
    ∷ (packed (value_of (get_or s 0 0)) (value_of (get_or s 1 0)) 0 % 256) ∷ []
unfolding imaged image_of reduced
imaged_two (a ∷ b ∷ []) h = pair_reduced (packed (value_of a) (value_of b) 0) []
imaged_two [] h = absurd (omega arith)
imaged_two (a ∷ []) h = absurd (omega arith)
imaged_two (a ∷ b ∷ c ∷ s) h = absurd (omega arith)

pub imaged_one : (s : List ℕ) → length s ≡ 1
    → imaged s ≡ ((256 * 0xFE + (get_or s 0 0 + 1) % 256) / 256 % 256) ∷ ((256 * 0xFE + (get_or s 0 0 + 1) % 256) % 256) ∷ []
unfolding imaged image_of reduced
imaged_one (c ∷ []) h =
    let low : (c + 1) % 256 < 256 = mod-lt (c + 1) (omega arith) in
    let both = split 256 0xFE ((c + 1) % 256) low in
    rw (both.0, both.1)
imaged_one [] h = absurd (omega arith)
imaged_one (a ∷ b ∷ s) h = absurd (omega arith)

pub imaged_none : (s : List ℕ) → length s ≤ 0 → imaged s ≡ []
unfolding imaged image_of reduced
imaged_none [] h = refl
imaged_none (a ∷ s) h = absurd (omega arith)

-- three characters more are stored
module _ {s t : List ℕ} {a b c : ℕ} (is : s ≡ a ∷ b ∷ c ∷ t) where
  imaged_three : imaged s ≡ (packed (value_of a) (value_of b) (value_of c) / 256 % 256)
      ∷ (packed (value_of a) (value_of b) (value_of c) % 256) ∷ imaged t
  unfolding imaged image_of
  imaged_three = ap imaged is ∙ pair_reduced (packed (value_of a) (value_of b) (value_of c)) (image_of t)

  pub two_shorter : length (imaged s) ≡ 2 + length (imaged t)
  two_shorter = rw imaged_three (omega arith)

  pub three_stored : (out whole : List ℕ) (n : ℕ) → sets out n (imaged s) ≡ whole
      → sets (set (set out n (packed (value_of a) (value_of b) (value_of c) / 256 % 256))
      (n + 1) (packed (value_of a) (value_of b) (value_of c) % 256)) (n + 2) (imaged t) ≡ whole
  three_stored out whole n h =
      pair_stored out n (packed (value_of a) (value_of b) (value_of c)) (imaged t) ∙ ap (sets out n) (sym imaged_three) ∙ h

-- what is put where it has room is a copy of the image
pub put_there : (out : List ℕ) (at : ℕ) (t : List ℕ) → at + octets_for (length t) ≤ length out
    → image_put out at t ≡ copied_at out at (imaged t)
unfolding image_put
put_there out at t h = rw (le-leb (at + octets_for (length t)) (length out) h)

-- a range that is as long as what is stored from its front becomes it
pub whole_stored : (out t : List ℕ) → length out ≡ length t → sets out 0 t ≡ t
whole_stored out t same =
    sets-eq t out 0 (rw (zero-add, same) (omega arith)) ∙ rw (zero-add, ← same, drop-length) (append-nil t)

-- the part of a range that is lent for it, and the range when it comes back
module _ (out : List ℕ) (at w : ℕ) (fits : at + w ≤ length out) where
  same_part : at + w - at ≡ w
  same_part = omega arith

  pub part_length : length (take (at + w - at) (drop at out)) ≡ w
  part_length = rw same_part (length-take-le w (drop at out) (rw length-drop (omega arith)))

  pub put_into : (t : List ℕ) → length t ≡ w
      → take at out ++ (t ++ drop (at + w - at) (drop at out)) ≡ copied_at out at t
  put_into t n =
      let there : at + length t ≤ length out = rw n fits in
      rw (same_part, copied_there out at t there, n, drop-drop)
