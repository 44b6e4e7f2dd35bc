-- The reference's characters, and its width, are those that its length tells.
use borrow.Author.Rules.{rules}
use Prim.Native.Nat.{◌≤◌}
use native.Mathlib.Omega.{arith}
use lib.ListN.{length}
use Rattle.c40.specs.Field.{octets_for}
use Rattle.c40.proofs.Exactly.{field_bound}
use Rattle.seal_header.specs.Reference.{width, reference}
use Rattle.seal_header.proofs.header.read.Goals as goal

pub read_by-requires : goal.read_by-requires
unfolding reference width octets_for
read_by-requires c = let s = c.args.s.now in
    let count = c.length-count.result in
    let text = c.read-n.ensures in
    let bound : length c.part.result.now ≤ count = rw (c.part.ensures, text) (field_bound s 4 count) in
    (search rules, omega (arith, c.length-count.ensures.value.1))

pub returns : goal.returns
unfolding reference width octets_for
returns c = rw (
  c.part.ensures,
  c.read-n.ensures,
  c.length-count.ensures.value.0,
) at c.read_by.ensures
