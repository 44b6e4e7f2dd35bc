-- What is left from here is told as the whole is; each element ends behind its start.
use Prim.Native.Nat.{◌-◌}
use mathlib.Core.Path.{◌≡◌}
use lib.ListN.{length}
use Rattle.tlv.specs.Read.{outcome_in}
use Rattle.details.specs.Details.{details}
use Rattle.details.proofs.element.all.Given as goal

abbrev pub invariant-loop-at : goal.invariant-loop-at
invariant-loop-at l = outcome_in (details l.s l.at) ≡ outcome_in (details l.s l.start)

abbrev pub decreases-loop-at : goal.decreases-loop-at
decreases-loop-at l = length l.s - l.at
