-- The parts before the zone, and the zone.
use native.Mathlib.Omega.{arith}
use lib.ListN.{length, length-append}
use Rattle.c40.specs.Field.{octets_for}
use Rattle.seal_writing.specs.Inner.Parts.{zone_start, zone_part, seal_width}
use Rattle.seal_writing.proofs.whole.seal_width.Goals as goal

pub returns : goal.returns
unfolding seal_width zone_part octets_for
returns c = let g = c.args.signature.now in
    omega (arith, c.start_width.ensures.0, length-append (zone_start (length g)) g)
