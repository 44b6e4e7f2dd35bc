-- Front, reference and back.
use borrow.Author.Rules.{rules}
use Prim.Native.Nat.{◌+◌, ◌≤◌}
use native.Mathlib.Omega.{arith}
use lib.ListN.{length}
use Rattle.c40.specs.Field.{octets_for}
use Rattle.seal_writing.proofs.WholePut.{head_put}
use Rattle.seal_writing.proofs.whole.put_head.Goals as goal

pub put_back-requires : goal.put_back-requires
unfolding octets_for
put_back-requires c =
    let room : 8 + octets_for c.args.h.reference_len + 10 ≤ length c.args.out.now = omega (
      arith,
      c.requires,
    ) in
    search (rules, room)

pub returns : goal.returns
unfolding octets_for
returns c =
    let a = c.args in
    let h = a.h in
    let cut = rw c.part.ensures at
    c.put_at.ensures in
    let good = c.well_formed in
    head_put h (search (rules, good)) (search (rules, good)) (search (rules, good)) (search (rules, good)) a.out.now
    c.put_front.new.out
    c.put_at.new.out c.put_back.new.out
    c.requires
    c.put_front.ensures cut c.put_back.ensures
