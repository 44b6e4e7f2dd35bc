-- Elements said of the octets alone, for the rows of checks: whether one is rightly coded at a place. Where its value stands, and
-- which places have one, is said in tlv `specs/Places.antt`. Document 01, "Stages of a presentation", Encoding.
use Rattle.std.specs.Prelude.{Option, Some, None, ℕ, ◌+◌, Bool, true, false, ◌&&◌, List, [], ◌∷◌, ◌++◌, eqb, leb, length}
use Rattle.refusal.specs.Outcome.{Outcome, unless}
use Rattle.tlv.specs.declared.Count.{Count}
use Rattle.tlv.specs.Element.{size_at, tag_at, tag_width}
use Rattle.tlv.specs.Places.{stretch_at}

-- "lengths definite and shortest: 00-7F, 81 80-FF, 82 0100-FFFF"
unfoldable pub is_length : Option Count → Bool
is_length (Some z) = true
is_length None = false

-- "tags as named, lengths definite and shortest [..]; each element ends within the one that holds it"
unfoldable pub is_coded : List ℕ → (at tag : ℕ) → Bool
is_coded s at tag =
    eqb (tag_at s at tag) tag && (is_length (size_at s (at + tag_width tag)) && leb (stretch_at s at tag).to (length s))

-- "Refusal 10's place is the tag of the element that fails or should stand there"
unfoldable pub coded : List ℕ → (at tag : ℕ) → Outcome
coded s at tag = unless (is_coded s at tag) 10 at

-- the rows of each place, in their order
unfoldable pub each : (ℕ → List Outcome) → List ℕ → List Outcome
each rows [] = []
each rows (at ∷ ps) = rows at ++ each rows ps
