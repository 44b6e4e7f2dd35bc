-- What is left from here has the same first file as the whole.
use Prim.Native.Nat.{◌-◌}
use mathlib.Core.Path.{◌≡◌}
use lib.ListN.{length}
use Rattle.refusal.specs.Outcome.{passed}
use Rattle.tlv.specs.Read.{outcome_in}
use Rattle.outer.specs.Outer.{files}
use Rattle.chip.specs.Inner.ByTable.{files_in}
use Rattle.chip.specs.Presentation.{first_file}
use Rattle.chip.proofs.group_file.first_file.Given as goal

abbrev pub invariant-loop-at : goal.invariant-loop-at
invariant-loop-at l = (outcome_in (files l.w l.at) ≡ passed)
    × (first_file l.w l.group (files_in (files l.w l.at)) ≡ first_file l.w l.group (files_in (files l.w l.start)))

abbrev pub decreases-loop-at : goal.decreases-loop-at
decreases-loop-at l = length l.w - l.at
