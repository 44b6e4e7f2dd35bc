-- A line begins no later than where the loop stands.
use Rattle.std.proofs.Common.{◌≤◌}
use Rattle.vectors.proofs.lines.Given as goal

abbrev pub invariant-loop-at : goal.invariant-loop-at
invariant-loop-at g l = l.start ≤ l.at
