-- What is left from here, with what was found, is the same as the whole.
use Prim.Native.Nat.{◌-◌}
use lib.ListN.{length}
use Rattle.inside.proofs.Tallies.{Onward}
use Rattle.inside.proofs.templates.tally_of.Given as goal

abbrev pub invariant-loop-at : goal.invariant-loop-at
invariant-loop-at l = Onward l.s l.tag l.start l.at l.first l.times

abbrev pub decreases-loop-at : goal.decreases-loop-at
decreases-loop-at l = length l.s - l.at
