-- The words before place i stand joined in front; a turn puts one more behind them (`joined_more`).
use mathlib.Core.Path.{◌≡◌}
use mathlib.Core.List.{◌++◌}
use Prim.Native.Nat.{◌*◌}
use lib.ListN.{length, take, drop}
use Rattle.sha256.specs.Parsing.{joined}
use Rattle.sha256.proofs.octets.joined.Given as goal

abbrev pub invariant-loop-i : goal.invariant-loop-i
invariant-loop-i l = (length l.initial.out ≡ 32) × (length l.out ≡ 32)
    × (l.out ≡ joined (take l.i l.hash) ++ drop (4 * l.i) l.initial.out)
