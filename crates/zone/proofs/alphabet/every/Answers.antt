use Rattle.zone.proofs.Every.{every_step, every_done}
use Rattle.zone.proofs.alphabet.every.Goals as goal

pub loop-c-preserved : goal.loop-c-preserved
loop-c-preserved g c = let l = c.loop-c in
    rw c.passes-fine.ensures (every_step g.T.Test.test c.args.s.now l.c-index l.fine l.invariant c.loop-c-test.true)

pub returns : goal.returns
returns g c = let l = c.loop-c in
    every_done g.T.Test.test c.args.s.now l.c-index l.fine l.invariant c.loop-c-test.false
