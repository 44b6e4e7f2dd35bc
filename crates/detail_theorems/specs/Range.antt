-- A stretch within what was lent, and the range that a name is from.
use Rattle.std.specs.Prelude.{ℕ, ◌≤◌, List, []}
use Rattle.tlv.specs.declared.Stretch.{Stretch}
use Rattle.full_name.specs.declared.From.{From}
use Rattle.full_name.specs.declared.From.TheVariants.{Nowhere, File, Text}

-- it ends where it starts or behind that, and within so many octets
pub record Within (v : Stretch) (end : ℕ) : Type 0 where
  pub forward : v.from ≤ v.to
  pub ends : v.to ≤ end

-- the octets of the range that a name is from
unfoldable pub range_of : From → (file text : List ℕ) → List ℕ
range_of Nowhere file text = []
range_of File file text = file
range_of Text file text = text
