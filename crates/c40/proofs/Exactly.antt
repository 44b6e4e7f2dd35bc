-- A field has as many characters as were asked for; where it is none, no characters.
use Prim.Native.Nat.{ℕ, ◌≤◌}
use mathlib.Core.Path.{◌≡◌, refl}
use mathlib.Core.Bool.{Bool, true, false, false≢true}
use mathlib.Core.List.{List, []}
use native.Mathlib.Omega.{arith}
use borrow.Author.Tests.{eqb-true}
use lib.ListN.{length}
use Rattle.c40.specs.Reader.{Reading, characters, no_image}
use Rattle.c40.specs.Field.{is_of, exactly, image_at, is_field, field_at}

of_length : (m : ℕ) (r : Reading) → is_of m r ≡ true → length (exactly m r) ≡ m
unfolding is_of exactly
of_length m (characters t) e = rw e (eqb-true (length t) m e)
of_length m no_image e = absurd (false≢true e)

none_of : (m : ℕ) (r : Reading) → is_of m r ≡ false → exactly m r ≡ []
unfolding is_of exactly
none_of m (characters t) e = rw e
none_of m no_image e = refl

module _ (s : List ℕ) (at m : ℕ) where
  pub field_length : is_field s at m ≡ true → length (field_at s at m) ≡ m
  unfolding is_field field_at
  field_length e = of_length m (image_at s at m) e

  pub no_field : is_field s at m ≡ false → field_at s at m ≡ []
  unfolding is_field field_at
  no_field e = none_of m (image_at s at m) e

  pub field_bound : length (field_at s at m) ≤ m
  field_bound = go (is_field s at m) refl
    where
      go : (b : Bool) → is_field s at m ≡ b → length (field_at s at m) ≤ m
      go true e = omega (arith, field_length e)
      go false e = rw (no_field e) (omega arith)
