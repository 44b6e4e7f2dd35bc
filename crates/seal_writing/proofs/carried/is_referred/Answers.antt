-- What stands past the length goes on to the end.
use mathlib.Core.Path.{sym, ◌∙◌}
use native.Mathlib.Omega.{arith}
use lib.ListN.{length}
use Rattle.lent.proofs.Lists.{take_rest, rest_all}
use Rattle.seal_writing.specs.Carried.{is_referred}
use Rattle.seal_writing.proofs.carried.is_referred.Goals as goal

pub returns : goal.returns
unfolding is_referred
returns c = let a = c.args in
    let s = a.s.now in
    let rest = sym (take_rest (length s) a.n s (omega arith)) ∙ rest_all s a.n in
    rw (
      c.all_fillers.ensures,
      c.part-2.ensures,
      rest,
      c.all_hex.ensures,
      c.part.ensures,
    )
