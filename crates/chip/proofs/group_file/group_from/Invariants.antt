-- What was found and what is left from here have the same first file as the whole; what was not found is empty.
use Prim.Native.Nat.{◌-◌}
use mathlib.Core.Path.{◌≡◌}
use lib.ListN.{length}
use Rattle.outer.specs.Outer.{files}
use Rattle.chip.specs.Inner.Found.{or_found}
use Rattle.chip.proofs.group_file.group_from.Given as goal

abbrev pub invariant-loop-at : goal.invariant-loop-at
invariant-loop-at l = (or_found l.w l.group l.found (files l.w l.at)
    ≡ or_found l.w l.group (record { from = 0; to = 0 }) (files l.w l.start))
    × (l.found.to ≡ 0 → l.found ≡ record { from = 0; to = 0 })

abbrev pub decreases-loop-at : goal.decreases-loop-at
decreases-loop-at l = length l.w - l.at
