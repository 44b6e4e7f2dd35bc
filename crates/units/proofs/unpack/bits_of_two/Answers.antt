-- The field of the two octets is the number (`bits-read`).
use mathlib.Core.Path.{◌∙◌}
use native.Mathlib.Omega.{arith}
use Rattle.units.proofs.Reading.{power_kept_above, bits_read}
use Rattle.units.proofs.unpack.bits_of_two.Goals as goal

pub returns : goal.returns
returns c =
    let a = c.args in
    bits_read a.s.now a.at a.width c.from-first.result c.from-second.result c.requires
    (c.from-first.ensures ∙ c.octet.ensures) (c.from-second.ensures ∙ c.octet-2.ensures)
    (omega (arith, c.from-first.ensures, c.octet.type_inv))
    (omega (arith, c.from-second.ensures, c.octet-2.type_inv))

pub nonzero_rem-result : goal.nonzero_rem-result
nonzero_rem-result c = power_kept_above c.args.width (omega arith)
