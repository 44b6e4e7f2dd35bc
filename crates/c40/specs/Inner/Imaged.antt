-- The image of any octets at all, its own octets below 256: what is written also where they are no text of C40. Of a text it is
-- `image_of` (`imaged-text`, proofs/Imaging.antt).
use Rattle.std.specs.Prelude.{ℕ, ◌+◌, ◌%◌, cond, List, map, leb, length}
use Rattle.lent.specs.Copied.{copied_at}
use Rattle.c40.specs.Image.{image_of}
use Rattle.c40.specs.Field.{octets_for}

unfoldable pub reduced : List ℕ → List ℕ
reduced s = map (λ (n : ℕ). n % 256) s

unfoldable pub imaged : List ℕ → List ℕ
imaged t = reduced (image_of t)

-- a range with the image at a place of it; where it has no room there, as it was
unfoldable pub image_put : (out : List ℕ) (at : ℕ) (t : List ℕ) → List ℕ
image_put out at t = cond (leb (at + octets_for (length t)) (length out)) (copied_at out at (imaged t)) out
