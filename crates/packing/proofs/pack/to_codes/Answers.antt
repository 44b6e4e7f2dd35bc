use Prim.Native.Nat.{◌<◌}
use mathlib.Core.Path.{◌∙◌}
use native.Mathlib.Omega.{arith}
use lib.ListN.{length}
use Rattle.lent.proofs.Changed.{map_step, map_done}
use Rattle.zone.specs.Codes.{code_of}
use Rattle.packing.proofs.pack.to_codes.Goals as goal

pub loop-c-preserved : goal.loop-c-preserved
loop-c-preserved c = let l = c.loop-c in
    let h : l.c-index < length l.s = omega arith in
    rw c.code_of.ensures.0 (map_step code_of l.s l.c-index h ∙ l.invariant)

pub returns : goal.returns
returns c = let l = c.loop-c in
    map_done code_of l.s l.c-index (omega arith) ∙ l.invariant
