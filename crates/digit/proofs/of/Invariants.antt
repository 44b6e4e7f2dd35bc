-- What was passed and what is left come to the same sum as the whole, modulo 10.
use Prim.Native.Nat.{◌<◌, ◌+◌, ◌%◌}
use mathlib.Core.Path.{◌≡◌}
use Rattle.std.specs.Slice.Iter.{chunks_rest, chunks_size}
use Rattle.digit.specs.Check.{sum_from}
use Rattle.digit.proofs.of.Given as goal

abbrev pub invariant-loop-part : goal.invariant-loop-part
invariant-loop-part l =
    (chunks_size l.part-iterator ≡ 255) × (l.sum < 10)
    × ((l.sum + sum_from 0 (chunks_rest l.part-iterator)) % 10 ≡ sum_from 0 l.s % 10)
