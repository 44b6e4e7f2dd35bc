-- Past the end `get_or` gives the filler too.
use mathlib.Core.Path.{sym}
use lib.ListN.{get_or-eq_default}
use Rattle.zone.specs.Alphabet.{filler}
use Rattle.zone.proofs.Filled.{there}
use Rattle.zone.proofs.taken.or_filler.Goals as goal

pub returns-then-i-s : goal.returns-then-i-s
returns-then-i-s c =
    let a = c.args in
    there a.s.now a.i 0 filler c.if-i-s.true

pub returns-else-i-s : goal.returns-else-i-s
returns-else-i-s c = sym (get_or-eq_default c.args.s.now filler c.if-i-s.false)
