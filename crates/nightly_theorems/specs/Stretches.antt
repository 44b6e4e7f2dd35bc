-- The stretches of houses, said without the reader: document 02, request 2026-14, "the stretch of the list that holds its
-- entries: all of them, no other house's, and empty where it has none".
use Rattle.std.specs.Prelude.{ℕ, zero, suc, ◌+◌, ◌≤◌, ◌<◌, cond, List, [], ◌∷◌, ◌++◌, ltb, length}
use Rattle.tlv.specs.declared.Stretch.{Stretch}
use Rattle.tlv.specs.Cut.{cut}
use Rattle.nightly.specs.List.{house_stretch}
use Rattle.run_theorems.specs.Runs.{Line, joined}

-- the lines of all houses below one
unfoldable pub lines_below : (house : ℕ) → List Line → List Line
lines_below house [] = []
lines_below house (l ∷ ls) = cond (ltb l.house house) (l ∷ lines_below house ls) (lines_below house ls)

-- the stretch of lines whose entries begin at a place, empty where there are none
unfoldable pub stretch_from : (at : ℕ) → List Line → Stretch
stretch_from at [] = record { from = 0; to = 0 }
stretch_from at (l ∷ ls) = record { from = at; to = at + length (joined (l ∷ ls)) }

-- the octet at a place is one of a stretch
abbrev pub Within : ℕ → Stretch → Type 0
Within p v = (v.from ≤ p) × (p < v.to)

-- the stretches of the houses 1 to n, in their order, joined
unfoldable pub stretches_to : List ℕ → (n : ℕ) → List ℕ
stretches_to w zero = []
stretches_to w (suc n) = stretches_to w n ++ cut w (house_stretch w (suc n))
