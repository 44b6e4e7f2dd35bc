-- The sequence, the two elements in it, and nothing behind them.
use Rattle.tlv.proofs.Told.{exit_read}
use Rattle.tlv.specs.Read.{and_then, checked}
use Rattle.object.specs.Object.{strings_at, sequence_at}
use Rattle.object.proofs.strings.sequence_at.Goals as goal

pub returns-in_err-v : goal.returns-in_err-v
unfolding sequence_at strings_at and_then checked
returns-in_err-v c =
    let r = c.from_residual in
    rw (exit_read _ r.result r.ensures.1, ← c.in_err-v.ensures)

pub returns-in_err-lds : goal.returns-in_err-lds
unfolding sequence_at strings_at and_then checked
returns-in_err-lds c =
    let r = c.from_residual-in_err-lds in
    rw (
      exit_read _ r.result r.ensures.1,
      ← c.in_ok-v.ensures,
      ← c.part-inner.ensures,
      ← c.in_err-lds.ensures,
    )

pub returns-in_err-unicode : goal.returns-in_err-unicode
unfolding sequence_at strings_at and_then checked
returns-in_err-unicode c =
    let r = c.from_residual-in_err-unicode in
    rw (
      exit_read _ r.result r.ensures.1,
      ← c.in_ok-v.ensures,
      ← c.part-inner.ensures,
      ← c.in_ok-lds.ensures,
      ← c.in_err-unicode.ensures,
    )

pub returns-in_err-end_check : goal.returns-in_err-end_check
unfolding sequence_at strings_at and_then checked
returns-in_err-end_check c =
    let r = c.from_residual-in_err-end_check in
    rw (
      exit_read _ r.result r.ensures.1,
      ← c.in_ok-v.ensures,
      ← c.part-inner.ensures,
      ← c.in_ok-lds.ensures,
      ← c.in_ok-unicode.ensures,
      ← c.in_err-end_check.ensures,
    )

pub returns-in_err-end_check-2 : goal.returns-in_err-end_check-2
unfolding sequence_at strings_at and_then checked
returns-in_err-end_check-2 c =
    let r = c.from_residual-in_err-end_check-2 in
    rw (
      exit_read _ r.result r.ensures.1,
      ← c.in_ok-v.ensures,
      ← c.part-inner.ensures,
      ← c.in_ok-lds.ensures,
      ← c.in_ok-unicode.ensures,
      ← c.in_ok-end_check.ensures,
      ← c.in_err-end_check-2.ensures,
    )

pub returns : goal.returns
unfolding sequence_at strings_at and_then checked
returns c = rw (
  ← c.in_ok-v.ensures,
  ← c.part-inner.ensures,
  ← c.in_ok-lds.ensures,
  ← c.in_ok-unicode.ensures,
  ← c.in_ok-end_check.ensures,
  ← c.in_ok-end_check-2.ensures,
)
