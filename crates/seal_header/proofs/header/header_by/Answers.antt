-- Field by field; what stands behind the reference's front is at most 255 characters.
use borrow.Author.Rules.{rules}
use Prim.Native.Nat.{◌<◌}
use native.Mathlib.Omega.{arith}
use mathlib.Core.Path.{sym, ◌∙◌}
use lib.ListN.{length, length-take, length-drop}
use Rattle.lent.proofs.Lists.{take_rest, rest_all}
use Rattle.seal_header.specs.Reference.{version, before}
use Rattle.seal_header.specs.Header.{header_by}
use Rattle.seal_header.proofs.header.header_by.Goals as goal

pub overflow_cast-result : goal.overflow_cast-result
unfolding header_by version
overflow_cast-result c = let part = c.part-behind in
    let from = c.before-from.ensures in
    let fits : length part.result.now < 256 = rw (part.ensures, length-take, length-drop, from) (omega arith) in
    search (rules, fits)

pub returns : goal.returns
unfolding header_by version
returns c = let a = c.args in
    let t = a.text.now in
    let rest = sym (take_rest (length t) (before a.s.now) t (omega arith)) ∙ rest_all t (before a.s.now) in
    rw (
      c.octet-3.ensures,
      c.octet-2.ensures,
      c.padded-2.ensures,
      c.padded.ensures,
      c.part.ensures,
      c.octet.ensures,
      c.part-behind.ensures,
      c.before-from.ensures,
      rest,
    )
