-- A field of C40 in a seal: "A field of m characters in C40 has 2 * ceil(m / 3) octets" (document 02, 2026-08, "three values to
-- two octets"; source 002, table 1: three characters in 2 octets, nine in 6).
use Rattle.std.specs.Prelude.{ℕ, ◌+◌, ◌*◌, ◌/◌, Bool, false, cond, ◌≡◌, List, [], eqb, length, take, drop}
use Rattle.c40.specs.Reader.{Reading, characters, no_image, read_c40}

unfoldable pub octets_for : ℕ → ℕ
octets_for m = 2 * ((m + 2) / 3)

-- whether it is the image of m characters, and these; none where it is not
unfoldable pub is_of : ℕ → Reading → Bool
is_of m (characters t) = eqb (length t) m
is_of m no_image = false

unfoldable pub exactly : ℕ → Reading → List ℕ
exactly m (characters t) = cond (eqb (length t) m) t []
exactly m no_image = []

-- the field of m characters at a place
unfoldable pub image_at : List ℕ → (at m : ℕ) → Reading
image_at s at m = read_c40 (take (octets_for m) (drop at s))

unfoldable pub is_field : List ℕ → (at m : ℕ) → Bool
is_field s at m = is_of m (image_at s at m)

unfoldable pub field_at : List ℕ → (at m : ℕ) → List ℕ
field_at s at m = exactly m (image_at s at m)

-- the whole promise of reading a field into a range, of as many characters as the range has octets: whether it is one; then these
-- stand there, else the range is as it was
pub record ReadsField (s : List ℕ) (at : ℕ) (out after : List ℕ) (r : Bool) : Type 0 where
  pub answer : r ≡ is_field s at (length out)
  pub output : after ≡ cond (is_field s at (length out)) (field_at s at (length out)) out
