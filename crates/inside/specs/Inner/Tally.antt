-- The first of some places, and how many they are.
use Rattle.std.specs.Prelude.{ℕ, List, length}
use Rattle.std.specs.List.{slice_get}
use Rattle.inside.specs.declared.templates.Tally.{Tally}
use Rattle.inside.specs.Templates.{directly, with_tag}

unfoldable pub tally_of : List ℕ → Tally
tally_of ps = record { first = slice_get ps 0; times = length ps }

unfoldable pub tallied : List ℕ → (tag at : ℕ) → Tally
tallied s tag at = tally_of (with_tag s tag (directly s at))
