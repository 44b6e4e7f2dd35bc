-- Past the end a store changes nothing.
use mathlib.Core.Path.{sym}
use lib.Seq.{set_out}
use Rattle.lent.proofs.put.Goals as goal

pub returns-else-at-to : goal.returns-else-at-to
returns-else-at-to c = sym (set_out c.args.to.now c.args.at c.args.c c.if-at-to.false)
