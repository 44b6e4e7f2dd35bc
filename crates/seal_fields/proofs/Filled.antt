-- The law of `filled`: it changes no length.
use Prim.Native.Nat.{ℕ}
use mathlib.Core.Path.{◌≡◌}
use mathlib.Core.List.{List}
use lib.ListN.{length, length-map}
use Rattle.seal_fields.specs.Spaces.{filled}

pub length-filled : (t : List ℕ) → length (filled t) ≡ length t
unfolding filled
length-filled t = length-map t _
