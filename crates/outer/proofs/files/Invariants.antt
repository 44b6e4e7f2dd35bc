-- What is left from here is told as the whole is; each file ends behind its start.
use Prim.Native.Nat.{◌-◌}
use mathlib.Core.Path.{◌≡◌}
use lib.ListN.{length}
use Rattle.tlv.specs.Read.{outcome_in}
use Rattle.outer.specs.Outer.{files}
use Rattle.outer.proofs.files.Given as goal

abbrev pub invariant-loop-at : goal.invariant-loop-at
invariant-loop-at l = outcome_in (files l.w l.at) ≡ outcome_in (files l.w l.start)

abbrev pub decreases-loop-at : goal.decreases-loop-at
decreases-loop-at l = length l.w - l.at
