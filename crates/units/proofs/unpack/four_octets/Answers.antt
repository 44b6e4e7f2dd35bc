-- Four octets are thirty-two bits (`four-octets`).
use Prim.Native.Nat.{◌+◌}
use native.Mathlib.Omega.{arith}
use Rattle.units.proofs.Reading.{four_octets}
use Rattle.units.proofs.unpack.four_octets.Goals as goal

pub returns : goal.returns
returns c =
    let a = c.args in
    four_octets a.s.now a.at _ _ _ _ c.from.ensures c.from-2.ensures c.from-3.ensures c.from-4.ensures
    (omega (arith, c.from.ensures, c.type_inv.s a.at)) (omega (arith, c.from-2.ensures, c.type_inv.s (a.at + 1)))
    (omega (arith, c.from-3.ensures, c.type_inv.s (a.at + 2))) (omega (arith, c.from-4.ensures, c.type_inv.s (a.at + 3)))
