-- Three stores.
use Prim.Native.Nat.{suc, ◌+◌}
use mathlib.Core.Path.{◌≡◌}
use native.Mathlib.Numerals.{add-one}
use native.Mathlib.Omega.{arith}
use Rattle.c40.specs.Reader.{three}
use Rattle.c40.proofs.write.put_three.Goals as goal

pub returns : goal.returns
unfolding three
returns c = let n = c.args.n in
    let e : n + 2 ≡ suc (suc n) = omega arith in
    rw (
      ← c.values_of-v.ensures.0,
      c.character_of-3.ensures,
      c.character_of-2.ensures,
      c.character_of.ensures,
      e,
      add-one,
    )
