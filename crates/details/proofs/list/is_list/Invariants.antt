-- What is left decides; the marks are those of the tags before.
use mathlib.Core.Path.{◌≡◌}
use lib.ListN.{length}
use Rattle.std.specs.Slice.Iter.{chunks_rest, chunks_size}
use Rattle.details.proofs.Listed.{Listing}
use Rattle.details.proofs.list.is_list.Given as goal

abbrev pub invariant-loop-pair : goal.invariant-loop-pair
invariant-loop-pair l =
    (chunks_size l.pair-iterator ≡ 2) × (length l.seen ≡ 256) × Listing l.tags l.seen (chunks_rest l.pair-iterator)
