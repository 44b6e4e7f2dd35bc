-- A turn takes one round off (`rounds_more`) and stores the word that goes into its place (`rolled_more`).
use mathlib.Core.Path.{◌≡◌}
use Prim.Native.Nat.{◌+◌, ◌-◌}
use lib.ListN.{take, drop}
use Rattle.sha256.specs.Hash.{rounds}
use Rattle.sha256.specs.Inner.Ring.{rolled}
use Rattle.sha256.proofs.rounds.eight_rolling.Given as goal

abbrev pub invariant-loop-i : goal.invariant-loop-i
invariant-loop-i l =
    (drop (l.at + l.i) l.w ≡ drop (l.at + l.i) l.initial.w)
    × (rolled (8 - l.i) (l.at + l.i) l.w ≡ rolled 8 l.at l.initial.w)
    × (rounds (drop l.i l.k) (drop l.i (take 8 (drop l.at l.initial.w))) l.s
    ≡ rounds l.k (take 8 (drop l.at l.initial.w)) l.initial.s)
