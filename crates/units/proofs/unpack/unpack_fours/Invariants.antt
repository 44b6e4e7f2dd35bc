-- The characters before the i-th four stand in front; a turn puts four more behind them (`unpack-more`).
use Prim.Native.Nat.{◌*◌}
use mathlib.Core.Path.{◌≡◌}
use mathlib.Core.List.{◌++◌}
use lib.ListN.{length, take, drop}
use Rattle.units.specs.Unpacked.{characters_at}
use Rattle.units.proofs.unpack.unpack_fours.Given as goal

abbrev pub invariant-loop-i : goal.invariant-loop-i
invariant-loop-i l =
    (length l.to ≡ length l.initial.to)
    × (l.to ≡ take (4 * l.i) (characters_at l.s l.at (4 * l.fours)) ++ drop (4 * l.i) l.initial.to)
