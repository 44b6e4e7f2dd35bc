-- What is left has the same length without trailing fillers as the whole.
use mathlib.Core.Path.{◌≡◌}
use lib.ListN.{length}
use Rattle.zone.specs.Record.{trimmed_length}
use Rattle.zone.proofs.record.trimmed_length.Given as goal

abbrev pub invariant-loop-shorter : goal.invariant-loop-shorter
invariant-loop-shorter l = trimmed_length l.rest ≡ trimmed_length l.s

abbrev pub decreases-loop-shorter : goal.decreases-loop-shorter
decreases-loop-shorter l = length l.rest

abbrev pub invariant-loop-shorter-2 : goal.invariant-loop-shorter-2
invariant-loop-shorter-2 l = trimmed_length l.rest ≡ trimmed_length l.s

abbrev pub decreases-loop-shorter-2 : goal.decreases-loop-shorter-2
decreases-loop-shorter-2 l = length l.rest
