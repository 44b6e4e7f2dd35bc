-- Rows that say something of parts. What no row says of a part is what stands for none.
use Rattle.std.specs.Prelude.{Bool, true, cond, ◌&&◌, List, [], ◌∷◌}
use Rattle.zone.specs.Part.{Part, same}

infix 70 ◌is◌
-- a part, and what is said of it
pub data PartRow (A : Type 0) : Type 0 where
  ◌is◌ : Part → A → PartRow A

abbrev pub in_rows : {A : Type 0} → A → List (PartRow A) → Part → A
in_rows none [] x = none
in_rows none (y is a ∷ rows) x = cond (same x y) a (in_rows none rows x)

-- whether a test holds of every row
abbrev pub all_rows : {A : Type 0} → (Part → A → Bool) → List (PartRow A) → Bool
all_rows p [] = true
all_rows p (x is a ∷ rows) = p x a && all_rows p rows
