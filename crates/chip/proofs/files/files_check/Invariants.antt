-- What is left from here, with the table as it is then, is decided as the whole is.
use Prim.Native.Nat.{◌-◌}
use mathlib.Core.Path.{◌≡◌}
use lib.ListN.{length}
use Rattle.refusal.specs.Outcome.{passed}
use Rattle.tlv.specs.Read.{outcome_in}
use Rattle.outer.specs.Outer.{files}
use Rattle.chip.specs.Inner.ByTable.{files_in, files_by}
use Rattle.chip.proofs.files.files_check.Given as goal

abbrev pub invariant-loop-at : goal.invariant-loop-at
invariant-loop-at l = (length l.table ≡ 17) × (outcome_in (files l.w l.at) ≡ passed)
    × (files_by l.w l.tags l.table (files_in (files l.w l.at))
    ≡ files_by l.w l.tags l.initial.table (files_in (files l.w l.start)))

abbrev pub decreases-loop-at : goal.decreases-loop-at
decreases-loop-at l = length l.w - l.at
