-- The octets of the units before the i-th four stand in front; a turn puts three more behind them (`pack-more`).
use Prim.Native.Nat.{◌*◌}
use mathlib.Core.Path.{◌≡◌}
use mathlib.Core.List.{◌++◌}
use lib.ListN.{length, take, drop}
use Rattle.packing.specs.Packed.{packed}
use Rattle.packing.proofs.pack.pack_fours.Given as goal

abbrev pub invariant-loop-i : goal.invariant-loop-i
invariant-loop-i g l =
    (length l.out ≡ length l.initial.out)
    × (l.out ≡ take (3 * l.i) (packed g.row.ON l.fours l.s) ++ drop (3 * l.i) l.initial.out)
