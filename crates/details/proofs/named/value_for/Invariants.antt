-- What is left from here says the same as the whole.
use mathlib.Core.Path.{◌≡◌}
use Rattle.std.specs.Slice.Iter.{chunks_rest, chunks_size}
use Rattle.details.specs.Tags.{tags_in}
use Rattle.details.specs.Inner.Places.{value_at}
use Rattle.details.proofs.named.value_for.Given as goal

abbrev pub invariant-loop-pair : goal.invariant-loop-pair
invariant-loop-pair l =
    (chunks_size l.pair-iterator ≡ 2)
    × (value_at l.asked l.s (tags_in (chunks_rest l.pair-iterator)) l.at ≡ value_at l.asked l.s (tags_in l.tags) l.start)
