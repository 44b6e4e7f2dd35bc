-- What is left, stored behind so many threes, gives the same as the whole, and there is room for just that.
use Prim.Native.Nat.{◌+◌, ◌*◌, ◌≤◌}
use mathlib.Core.Path.{◌≡◌}
use lib.ListN.{length, drop}
use lib.Seq.{sets}
use Rattle.c40.specs.Reader.{read_c40}
use Rattle.c40.specs.Inner.Left.{text_of}
use Rattle.c40.proofs.write.write.Given as goal

abbrev pub invariant-loop-k : goal.invariant-loop-k
invariant-loop-k l =
    (length l.out ≡ length l.initial.out)
    × (2 * l.k ≤ length l.s)
    × (3 * l.k + length (text_of (read_c40 (drop (2 * l.k) l.s))) ≡ length l.out)
    × (sets l.out (3 * l.k) (text_of (read_c40 (drop (2 * l.k) l.s))) ≡ sets l.initial.out 0 (text_of (read_c40 l.s)))
