-- How many are left tells what the last pair holds.
use native.Mathlib.Omega.{arith}
use Rattle.c40.specs.Reader.{one}
use Rattle.c40.proofs.Storing.{two_from, one_from, none_from}
use Rattle.c40.proofs.write.write_last.Goals as goal

pub returns-then-out-n-eq2 : goal.returns-then-out-n-eq2
returns-then-out-n-eq2 c = let a = c.args in
    rw (two_from a.s.now (omega arith)) c.put_two.ensures

pub returns-then-out-n-eq1 : goal.returns-then-out-n-eq1
unfolding one
returns-then-out-n-eq1 c = let a = c.args in
    rw (one_from a.s.now (omega arith), c.saturating_sub.ensures)

pub returns-in_default : goal.returns-in_default
returns-in_default c = rw (none_from c.args.s.now c.in_default.len_below)
