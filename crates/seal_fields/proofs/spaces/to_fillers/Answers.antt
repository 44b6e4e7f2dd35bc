use Prim.Native.Nat.{◌<◌, ◌≤◌}
use mathlib.Core.Path.{◌∙◌}
use native.Mathlib.Omega.{arith}
use lib.ListN.{length}
use Rattle.lent.proofs.Changed.{map_step, map_done}
use Rattle.seal_fields.specs.Spaces.{filled}
use Rattle.seal_fields.proofs.spaces.to_fillers.Goals as goal

pub loop-c-preserved : goal.loop-c-preserved
unfolding filled
loop-c-preserved c = let l = c.loop-c in
    let h : l.c-index < length l.text = omega arith in
    rw c.filler_for_space.ensures (map_step _ l.text l.c-index h ∙ l.invariant)

pub returns : goal.returns
unfolding filled
returns c = let l = c.loop-c in
    let h : length l.text ≤ l.c-index = omega arith in
    map_done _ l.text l.c-index h ∙ l.invariant
