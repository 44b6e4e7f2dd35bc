-- Where elements stand as their lengths say, whether they are rightly coded or not: document 01, "Stages of a presentation",
-- Encoding.
use Rattle.std.specs.Prelude.{Option, Some, None}
use Rattle.tlv.specs.declared.Count.{Count}
use Rattle.std.specs.Prelude.{ℕ, zero, suc, ◌+◌, cond, List, [], ◌∷◌, leb}
use Rattle.tlv.specs.declared.Stretch.{Stretch}
use Rattle.tlv.specs.Element.{size_at, tag_width}

-- where the value stands whose length is told at a place; where none is told, nowhere
unfoldable pub stretch_by : ℕ → Option Count → Stretch
stretch_by place (Some z) = record { from = place + z.told; to = place + z.told + z.count }
stretch_by place None = record { from = place; to = place }

-- where the value of an element at a place stands, as its length says
unfoldable pub stretch_at : List ℕ → (at tag : ℕ) → Stretch
stretch_at s at tag = stretch_by (at + tag_width tag) (size_at s (at + tag_width tag))

-- the places of what stands one behind the other up to an end, each where the one before ends; here at most so many
unfoldable pub places_from : (ℕ → ℕ) → (end more at : ℕ) → List ℕ
places_from behind end zero at = []
places_from behind end (suc more) at = cond (leb end at) [] (at ∷ places_from behind end more (behind at))

-- nothing that is rightly coded is empty, so that there are no more places than octets
unfoldable pub places : (ℕ → ℕ) → (end at : ℕ) → List ℕ
places behind end at = places_from behind end (suc end) at
