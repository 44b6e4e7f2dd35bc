-- What is left from here is told as the whole is; each feature ends behind its start.
use Prim.Native.Nat.{◌-◌}
use mathlib.Core.Path.{◌≡◌}
use lib.ListN.{length}
use Rattle.seal_features.specs.Features.{features}
use Rattle.seal_features.proofs.FeaturesPassed.{left_from}
use Rattle.seal_features.proofs.features.walk.Given as goal

abbrev pub invariant-loop-start : goal.invariant-loop-start
invariant-loop-start l = left_from l.s l.at l.text ≡ features l.s l.start

abbrev pub decreases-loop-start : goal.decreases-loop-start
decreases-loop-start l = length l.s - l.at
