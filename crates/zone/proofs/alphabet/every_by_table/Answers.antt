use lib.ListN.{get_or}
use native.Mathlib.Omega.{arith}
use Rattle.zone.proofs.Every.{every_step, every_done}
use Rattle.zone.proofs.alphabet.every_by_table.Goals as goal

pub loop-octet-preserved : goal.loop-octet-preserved
loop-octet-preserved c = λ test h. let l = c.loop-octet in
    let s = c.args.s.now in
    rw (h (get_or s l.octet-index 0) (omega (arith, c.type_inv.s l.octet-index)))
    (every_step test s l.octet-index l.fine (l.invariant test h) c.loop-octet-test.true)

pub returns : goal.returns
returns c = λ test h. let l = c.loop-octet in
    every_done test c.args.s.now l.octet-index l.fine (l.invariant test h) c.loop-octet-test.false
