-- Nested rotations add, and pass through XOR (`nest-three`).
use Rattle.std.proofs.Common.{arith}
use Rattle.sha256_words.proofs.RotationLaws.{nest_three}
use Rattle.sha256_words.proofs.words.three_rotated.Goals as goal

pub returns : goal.returns
returns g c = rw (c.rotr-3.ensures, c.rotr-2.ensures, c.rotr.ensures)
    (nest_three 32 g.row.A g.row.B g.row.C c.args.x (omega arith) c.ranges.x.fits)
