-- The laws of `is_below`, by which a loop over two keys steps.
use Prim.Native.Nat.{ℕ, ◌+◌, ◌≤◌, ◌<◌}
use mathlib.Core.Path.{◌≡◌, refl}
use mathlib.Core.Bool.{Bool, true, false}
use mathlib.Core.List.{List, [], ◌∷◌}
use native.Mathlib.Numerals.{add-one}
use borrow.Author.Tests.{eq-eqb, ne_eqb}
use lib.Dec.{ltb}
use lib.ListN.{length, drop, get_or, drop_of_length-le}
use lib.Seq.{drop-cons}
use Rattle.nightly.specs.Key.{is_below}

none_below : (a : List ℕ) → is_below a [] ≡ false
unfolding is_below
none_below [] = refl
none_below (x ∷ a) = refl

-- what is left from a place on decides
module _ (a b : List ℕ) (i : ℕ) (r : Bool) (left : is_below (drop i a) (drop i b) ≡ r) where
  pub below_more : i < length a → i < length b → get_or a i 0 ≡ get_or b i 0 → is_below (drop (i + 1) a) (drop (i + 1) b) ≡ r
  unfolding is_below
  below_more h k e =
      rw (add-one i) (rw (drop-cons a i 0 h, drop-cons b i 0 k, eq-eqb (get_or a i 0) (get_or b i 0) e) at left)

  pub below_differs : i < length a → i < length b → (get_or a i 0 ≡ get_or b i 0 → ⊥) → ltb (get_or a i 0) (get_or b i 0) ≡ r
  unfolding is_below
  below_differs h k e = rw (drop-cons a i 0 h, drop-cons b i 0 k, ne_eqb (get_or a i 0) (get_or b i 0) e) at left

  pub below_shorter : length a ≤ i → i < length b → true ≡ r
  unfolding is_below
  below_shorter h k = rw (drop_of_length-le a h, drop-cons b i 0 k) at left

  pub below_end : length b ≤ i → false ≡ r
  below_end h = rw (drop_of_length-le b h, none_below (drop i a)) at left
