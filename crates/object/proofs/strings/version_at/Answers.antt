-- By the version.
use Rattle.tlv.proofs.Told.{exit_read}
use Rattle.tlv.specs.Read.{and_then, checked}
use Rattle.object.specs.Object.{version_at}
use Rattle.object.proofs.strings.version_at.Goals as goal

pub returns-in_err-strings : goal.returns-in_err-strings
unfolding version_at and_then
returns-in_err-strings c =
    let r = c.from_residual in
    rw (exit_read _ r.result r.ensures.1, c.if-newer.true, ← c.in_err-strings.ensures)

pub returns-then-newer : goal.returns-then-newer
unfolding version_at and_then
returns-then-newer c = rw (c.if-newer.true, ← c.in_ok-strings.ensures)

pub returns-in_err-end_check : goal.returns-in_err-end_check
unfolding version_at checked
returns-in_err-end_check c =
    let r = c.from_residual-in_err-end_check in
    rw (exit_read _ r.result r.ensures.1, c.if-newer.false, ← c.in_err-end_check.ensures)

pub returns : goal.returns
unfolding version_at checked
returns c = rw (c.if-newer.false, ← c.in_ok-end_check.ensures)
