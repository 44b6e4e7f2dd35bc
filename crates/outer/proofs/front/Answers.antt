-- Size first, then EF.COM at the start, then the security object.
use borrow.Author.Tests.{le-leb, lt-leb}
use Rattle.tlv.proofs.Told.{exit_read}
use Rattle.tlv.specs.Read.{and_then, checked}
use Rattle.outer.specs.Outer.{size_check}
use Rattle.outer.specs.Inner.Onward.{front}
use Rattle.outer.proofs.front.Goals as goal

pub returns-then-w-gt65535 : goal.returns-then-w-gt65535
unfolding front size_check checked and_then
returns-then-w-gt65535 c = rw (lt-leb _ _ c.if-w-gt65535.true, c.at.ensures)

pub returns-in_err-efcom : goal.returns-in_err-efcom
unfolding front size_check checked and_then
returns-in_err-efcom c =
    rw (exit_read _ c.from_residual.result c.from_residual.ensures.1, le-leb _ _ c.if-w-gt65535.false, ← c.in_err-efcom.ensures)

pub returns-in_err-object : goal.returns-in_err-object
unfolding front size_check checked and_then
returns-in_err-object c =
    let r = c.from_residual-in_err-object in
    rw (exit_read _ r.result r.ensures.1, le-leb _ _ c.if-w-gt65535.false, ← c.in_ok-efcom.ensures, ← c.in_err-object.ensures)

pub returns : goal.returns
unfolding front size_check checked and_then
returns c = rw (le-leb _ _ c.if-w-gt65535.false, ← c.in_ok-efcom.ensures, ← c.in_ok-object.ensures)
