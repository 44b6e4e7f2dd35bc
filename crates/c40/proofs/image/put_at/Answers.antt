-- Where there is room, the part of the range becomes the image.
use Prim.Native.Nat.{◌+◌, ◌≤◌, ◌<◌}
use native.Mathlib.Omega.{arith}
use mathlib.Core.Path.{sym, ◌∙◌}
use borrow.Author.Tests.{lt-leb}
use lib.ListN.{length}
use Rattle.c40.specs.Field.{octets_for}
use Rattle.c40.specs.Inner.Imaged.{imaged, image_put}
use Rattle.c40.proofs.Imaging.{imaged_length, put_there, part_length, put_into}
use Rattle.c40.proofs.image.put_at.Goals as goal

pub put_pairs-requires : goal.put_pairs-requires
unfolding octets_for
put_pairs-requires c =
    let a = c.args in
    part_length a.out.now a.at (octets_for (length a.s.now)) (omega (arith, c.if-wide-out.true, c.if-at-out.true))
    ∙ sym (imaged_length a.s.now)

pub returns-then-wide-out : goal.returns-then-wide-out
unfolding octets_for
returns-then-wide-out c =
    let a = c.args in
    let s = a.s.now in
    let out = a.out.now in
    let room : a.at + octets_for (length s) ≤ length out = omega
    (arith, c.if-wide-out.true, c.if-at-out.true) in
    rw (put_there out a.at s room, c.put_pairs.ensures)
    (put_into out a.at (octets_for (length s)) room (imaged s) (imaged_length s))

pub returns-else-wide-out : goal.returns-else-wide-out
unfolding image_put octets_for
returns-else-wide-out c =
    let a = c.args in
    let s = a.s.now in
    let out = a.out.now in
    let short : length out < a.at + octets_for (length s) = omega (arith, c.if-wide-out.false, c.if-at-out.true) in
    rw (lt-leb (a.at + octets_for (length s)) (length out) short)

pub returns-else-at-out : goal.returns-else-at-out
unfolding image_put octets_for
returns-else-at-out c =
    let a = c.args in
    let s = a.s.now in
    let out = a.out.now in
    let short : length out < a.at + octets_for (length s) = omega (arith, c.if-at-out.false) in
    rw (lt-leb (a.at + octets_for (length s)) (length out) short)
