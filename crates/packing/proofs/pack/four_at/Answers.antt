-- Each octet is the unit at its place.
use Prim.Native.Nat.{◌+◌}
use native.Mathlib.Omega.{arith}
use Rattle.packing.specs.Packed.{four_at}
use Rattle.packing.proofs.pack.four_at.Goals as goal

pub returns : goal.returns
unfolding four_at
returns c =
    let at = c.args.at in
    let fits = c.type_inv.s in (
      rw (c.from-4.ensures, c.from-3.ensures, c.from-2.ensures, c.from.ensures),
      omega (
        arith,
        c.from.ensures,
        c.from-2.ensures,
        c.from-3.ensures,
        c.from-4.ensures,
        fits at,
        fits (at + 1),
        fits (at + 2),
        fits (at + 3),
      ),
    )
