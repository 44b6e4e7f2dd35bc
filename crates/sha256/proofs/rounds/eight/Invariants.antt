-- What is left of the rounds gives the same as all of them; a turn takes one off (`rounds_more`).
use mathlib.Core.Path.{◌≡◌}
use lib.ListN.{take, drop}
use Rattle.sha256.specs.Hash.{rounds}
use Rattle.sha256.proofs.rounds.eight.Given as goal

abbrev pub invariant-loop-i : goal.invariant-loop-i
invariant-loop-i l =
    rounds (drop l.i l.k) (drop l.i (take 8 (drop l.at l.w))) l.s ≡ rounds l.k (take 8 (drop l.at l.w)) l.initial.s
