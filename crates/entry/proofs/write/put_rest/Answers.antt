-- Each is copied behind the one before.
use native.Mathlib.Omega.{arith}
use Rattle.sound.proofs.SoundRecord.{taken_apart}
use Rattle.entry.specs.Inner.Units.{placed_rest}
use Rattle.entry.proofs.write.put_rest.Goals as goal

pub overflow_add-m : goal.overflow_add-m
overflow_add-m c =
    let start = c in
    omega (arith, (taken_apart start.args.r start.requires).own_most)

pub returns : goal.returns
unfolding placed_rest
returns c =
    let own = c in
    rw (c.copy_at-2.ensures, own.copy_at.ensures, own.part.ensures)
