-- What was passed and what is left decide for the whole.
use Prim.Native.Nat.{◌*◌}
use mathlib.Core.Path.{◌≡◌}
use mathlib.Core.Bool.{◌&&◌}
use lib.ListN.{drop}
use Rattle.c40.specs.Inner.Left.{all_three}
use Rattle.c40.proofs.measure.all_three.Given as goal

abbrev pub invariant-loop-pair : goal.invariant-loop-pair
invariant-loop-pair l = l.fine && all_three (drop (2 * l.pair-index) l.s) ≡ all_three l.s
