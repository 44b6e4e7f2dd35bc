-- The head, and the rest behind it.
use borrow.Author.Rules.{rules}
use Prim.Native.Nat.{◌+◌, ◌≤◌}
use native.Mathlib.Omega.{arith}
use lib.ListN.{length}
use Rattle.c40.specs.Field.{octets_for}
use Rattle.seal_writing.specs.Inner.Parts.{zone_part, seal_width}
use Rattle.seal_writing.proofs.WholePut.{head_length, seal_put}
use Rattle.seal_writing.proofs.whole.put_seal.Goals as goal

pub put_head-requires : goal.put_head-requires
unfolding seal_width
put_head-requires c =
    let a = c.args in
    let room : 18 + octets_for a.h.reference_len ≤ length a.out.now = omega
    (arith, c.requires.1) in
    search (rules, room)

pub put_rest-requires : goal.put_rest-requires
unfolding seal_width octets_for
put_rest-requires c =
    let a = c.args in
    let room : 18 + octets_for a.h.reference_len + 48 + length (zone_part a.signature.now) ≤ length a.out.now =
    omega (arith, c.requires.1) in
    (c.requires.0, search (rules, room))

pub returns : goal.returns
unfolding octets_for
returns c =
    let mid = c in
    let a = mid.args in
    let h = a.h in
    let head = head_length h (search rules) (search rules) (search rules) (search rules) in
    seal_put h a.text a.signature.now head (search rules) a.out.now
    c.put_head.new.out
    c.put_rest.new.out mid.requires.1
    c.put_head.ensures c.put_rest.ensures
