-- What is left, stored behind n octets, gives the same as the whole, and there is room for just that.
use Prim.Native.Nat.{◌+◌}
use mathlib.Core.Path.{◌≡◌}
use lib.ListN.{length}
use lib.Seq.{sets}
use Rattle.c40.specs.Inner.Imaged.{imaged}
use Rattle.c40.proofs.image.put_pairs.Given as goal

abbrev pub invariant-loop-left : goal.invariant-loop-left
invariant-loop-left l =
    (length l.out ≡ length l.initial.out)
    × (l.n + length (imaged l.left) ≡ length l.out)
    × (sets l.out l.n (imaged l.left) ≡ sets l.initial.out 0 (imaged l.s))

abbrev pub decreases-loop-left : goal.decreases-loop-left
decreases-loop-left l = length l.left
