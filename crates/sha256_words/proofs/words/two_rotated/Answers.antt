-- Nested rotations add, and pass through XOR (`nest-two`).
use Rattle.std.proofs.Common.{ℕ, ap, arith}
use Rattle.sha256_words.specs.Words.{◌⊕◌, shr}
use Rattle.sha256_words.proofs.RotationLaws.{nest_two}
use Rattle.sha256_words.proofs.words.two_rotated.Goals as goal

pub returns : goal.returns
returns g c = let x = c.args.x in
    rw (c.rotr-2.ensures, c.rotr.ensures)
    (ap (λ (n : ℕ). n ⊕ shr g.row.S x) (nest_two 32 g.row.A g.row.B x (omega arith) c.ranges.x.fits))
