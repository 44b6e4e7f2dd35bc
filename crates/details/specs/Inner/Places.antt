-- No words of the paper: list and elements side by side, from place to place. The list ends these walks, so that no number of
-- steps is needed; of elements that are all rightly coded they say what the paper's words say (details `proofs/SideBySide.antt`).
use Rattle.std.specs.Prelude.{ℕ, cond, List, [], ◌∷◌, eqb, leb, length}
use Rattle.refusal.specs.Numbers.{by}
use Rattle.refusal.specs.Outcome.{Outcome, refused, unless}
use Rattle.tlv.specs.declared.Stretch.{Stretch}
use Rattle.tlv.specs.Read.{Read, value, refusal}
use Rattle.details.specs.Tags.{tag_here, stands_for}
use Rattle.details.specs.Details.{Detail, detail_at, given}

-- a value that was read, and where none was, nothing at a place
unfoldable pub held_or : (at : ℕ) → Read Stretch → Stretch
held_or at (value v) = v
held_or at (refusal n p) = record { from = at; to = at }

unfoldable pub held_at : List ℕ → ℕ → Stretch
held_at s at = held_or at (detail_at s at)

unfoldable pub detail_here : List ℕ → ℕ → Detail
detail_here s at = record { tag = tag_here s at; at = at; held = held_at s at }

-- whether the elements from a place on are those that are named
unfoldable pub agrees_at : (end : ℕ) → List ℕ → (named : List ℕ) → ℕ → Outcome
agrees_at end s [] at = unless (leb (length s) at) 20 at
agrees_at end s (t ∷ ts) at =
    cond (leb (length s) at) (refused (by 20) end)
    (cond (eqb (tag_here s at) (stands_for t)) (agrees_at end s ts (held_at s at).to) (refused (by 20) at))

-- what stands where the asked one is named
unfoldable pub value_at : (asked : ℕ) → List ℕ → (named : List ℕ) → ℕ → Stretch
value_at asked s [] at = record { from = 0; to = 0 }
value_at asked s (t ∷ ts) at = cond (eqb t asked) (given (detail_here s at)) (value_at asked s ts (held_at s at).to)
