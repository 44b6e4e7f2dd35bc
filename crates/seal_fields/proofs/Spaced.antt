-- A text in the characters of C40, spaces for its fillers, and back: each way tells the other.
use Prim.Native.Nat.{ℕ, zero, suc, ◌*◌}
use mathlib.Core.Path.{◌≡◌, refl, ap, sym, ◌∙◌}
use mathlib.Core.Bool.{Bool, true, false, cond, ◌||◌, false≢true}
use mathlib.Core.List.{List, [], ◌∷◌}
use native.Mathlib.Omega.{arith}
use borrow.Author.Tests.{eqb-true}
use lib.Dec.{eqb}
use lib.ListN.{length}
use Rattle.lent.proofs.Bools.{and_both, both_and}
use Rattle.zone.specs.Alphabet.{is_digit, is_letter, is_filler, is_character, every, filler}
use Rattle.c40.specs.Values.{space, is_c40, value_of}
use Rattle.c40.specs.Image.{image_of}
use Rattle.c40.specs.Inner.Imaged.{imaged}
use Rattle.c40.proofs.Imaging.{imaged_threes}
use Rattle.c40.proofs.Coding.{digit_c40, letter_c40}
use Rattle.seal_fields.specs.Spaces.{filled, spaced}

-- a character of the zone, a filler as a space, is one of C40, and is read back
character_spaced : (c : ℕ) → is_character c ≡ true
    → (is_c40 (cond (is_filler c) space c) ≡ true)
    × (cond (eqb (cond (is_filler c) space c) space) filler (cond (is_filler c) space c) ≡ c)
unfolding is_character is_c40 is_filler is_digit is_letter
character_spaced c e = go (is_filler c) refl
  where
    one_of : (d l f : Bool) → is_digit c ≡ d → is_letter c ≡ l → f ≡ false → d || (l || f) ≡ true → is_c40 c ≡ true
    one_of true l f p q r h = digit_c40 c p
    one_of false true f p q r h = letter_c40 c q
    one_of false false f p q r h = absurd (false≢true (sym r ∙ h))

    no_space : (b : Bool) → eqb c space ≡ b → cond b filler c ≡ c
    no_space true p = absurd (false≢true (sym (ap is_character (eqb-true c space p)) ∙ e))
    no_space false p = refl

    go : (b : Bool) → is_filler c ≡ b
        → (is_c40 (cond b space c) ≡ true) × (cond (eqb (cond b space c) space) filler (cond b space c) ≡ c)
    go true p = (refl, sym (eqb-true c filler p))
    go false p = (one_of (is_digit c) (is_letter c) (is_filler c) refl refl p e, no_space (eqb c space) refl)

pub spaced_c40 : (t : List ℕ) → every is_character t ≡ true → every is_c40 (spaced t) ≡ true
unfolding every spaced
spaced_c40 [] e = refl
spaced_c40 (c ∷ t) e =
    let both = and_both (is_character c) (every is_character t) e in
    both_and (character_spaced c both.0).0 (spaced_c40 t both.1)

pub filled_spaced : (t : List ℕ) → every is_character t ≡ true → filled (spaced t) ≡ t
unfolding every spaced filled
filled_spaced [] e = refl
filled_spaced (c ∷ t) e =
    let both = and_both (is_character c) (every is_character t) e in
    let one = (character_spaced c both.0).1 in
    let more = filled_spaced t both.1 in
    λ i. one i ∷ more i

-- a character of C40, a space as a filler, and back
character_filled : (c : ℕ) → is_c40 c ≡ true
    → cond (is_filler (cond (eqb c space) filler c)) space (cond (eqb c space) filler c) ≡ c
unfolding is_c40 is_filler is_digit is_letter
character_filled c e = go (eqb c space) refl
  where
    no_filler : (b : Bool) → eqb c filler ≡ b → cond b space c ≡ c
    no_filler true p = absurd (false≢true (sym (ap is_c40 (eqb-true c filler p)) ∙ e))
    no_filler false p = refl

    go : (b : Bool) → eqb c space ≡ b → cond (is_filler (cond b filler c)) space (cond b filler c) ≡ c
    go true p = sym (eqb-true c space p)
    go false p = no_filler (eqb c filler) refl

spaced_filled : (t : List ℕ) → every is_c40 t ≡ true → spaced (filled t) ≡ t
unfolding every spaced filled
spaced_filled [] e = refl
spaced_filled (c ∷ t) e =
    let both = and_both (is_c40 c) (every is_c40 t) e in
    let one = character_filled c both.0 in
    let more = spaced_filled t both.1 in
    λ i. one i ∷ more i

-- so fillers for spaces hide nothing
pub filled_tells : (t u : List ℕ) → every is_c40 t ≡ true → every is_c40 u ≡ true → filled t ≡ filled u → t ≡ u
filled_tells t u p q e = sym (spaced_filled t p) ∙ (ap spaced e ∙ spaced_filled u q)

-- ---- and its image

value_spaced : (c : ℕ) → value_of (cond (is_filler c) space c) ≡ value_of c
unfolding is_filler value_of is_digit is_letter
value_spaced c = go (is_filler c) refl
  where
    go : (b : Bool) → is_filler c ≡ b → value_of (cond b space c) ≡ value_of c
    go true p = sym (ap value_of (eqb-true c filler p))
    go false p = refl

-- in a text of threes a filler has the value of a space
image_spaced : (k : ℕ) (t : List ℕ) → length t ≡ 3 * k → image_of (spaced t) ≡ image_of t
unfolding spaced image_of
image_spaced k [] e = refl
image_spaced k (c ∷ []) e = absurd (omega arith)
image_spaced k (c ∷ d ∷ []) e = absurd (omega arith)
image_spaced zero (c ∷ d ∷ f ∷ t) e = absurd (omega arith)
image_spaced (suc k) (c ∷ d ∷ f ∷ t) e =
    rw (value_spaced c, value_spaced d, value_spaced f, image_spaced k t (omega arith))

-- so that its image is written as it stands
pub imaged_spaced : (k : ℕ) (t : List ℕ) → length t ≡ 3 * k → imaged t ≡ image_of (spaced t)
imaged_spaced k t e = imaged_threes k t e ∙ sym (image_spaced k t e)
