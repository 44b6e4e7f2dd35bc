-- The file, its list, and each check in its order (`read_onward`).
use Rattle.tlv.proofs.Told.{exit_read}
use Rattle.tlv.specs.Read.{and_then, checked}
use Rattle.details.proofs.SideBySide.{read_onward}
use Rattle.details.proofs.read.Goals as goal

pub returns-in_err-v : goal.returns-in_err-v
unfolding and_then
returns-in_err-v c =
    rw (
      exit_read _ c.from_residual.result c.from_residual.ensures.1,
      ← read_onward c.args.s.now c.args.asked,
      ← c.in_err-v.ensures,
    )

pub returns-in_err-list : goal.returns-in_err-list
unfolding and_then
returns-in_err-list c =
    let r = c.from_residual-in_err-list in
    rw (
      exit_read _ r.result r.ensures.1,
      ← read_onward c.args.s.now c.args.asked,
      ← c.in_ok-v.ensures,
      ← c.part-inner.ensures,
      ← c.in_err-list.ensures,
    )

pub returns-in_err-all : goal.returns-in_err-all
unfolding and_then checked
returns-in_err-all c =
    let r = c.from_residual-in_err-all in
    rw (
      exit_read _ r.result r.ensures.1,
      ← read_onward c.args.s.now c.args.asked,
      ← c.in_ok-v.ensures,
      ← c.part-inner.ensures,
      ← c.in_ok-list.ensures,
      ← c.in_err-all.ensures,
    )

pub returns-in_err-end_check : goal.returns-in_err-end_check
unfolding and_then checked
returns-in_err-end_check c =
    let r = c.from_residual-in_err-end_check in
    rw (
      exit_read _ r.result r.ensures.1,
      ← read_onward c.args.s.now c.args.asked,
      ← c.in_ok-v.ensures,
      ← c.part-inner.ensures,
      ← c.in_ok-list.ensures,
      ← c.in_ok-all.ensures,
      ← c.in_err-end_check.ensures,
    )

pub returns-in_err-unless : goal.returns-in_err-unless
unfolding and_then checked
returns-in_err-unless c =
    let r = c.from_residual-in_err-unless in
    rw (
      exit_read _ r.result r.ensures.1,
      ← read_onward c.args.s.now c.args.asked,
      ← c.in_ok-v.ensures,
      ← c.part-inner.ensures,
      ← c.in_ok-list.ensures,
      ← c.in_ok-all.ensures,
      ← c.in_ok-end_check.ensures,
      ← c.cut-tags.ensures,
    )
    (rw (← c.is_list.ensures, ← c.in_err-unless.ensures))

pub returns-in_err-agree : goal.returns-in_err-agree
unfolding and_then checked
returns-in_err-agree c =
    let r = c.from_residual-in_err-agree in
    rw (
      exit_read _ r.result r.ensures.1,
      ← read_onward c.args.s.now c.args.asked,
      ← c.in_ok-v.ensures,
      ← c.part-inner.ensures,
      ← c.in_ok-list.ensures,
      ← c.in_ok-all.ensures,
      ← c.in_ok-end_check.ensures,
      ← c.cut-tags.ensures,
      ← c.is_list.ensures,
    )
    (rw (← c.in_ok-unless.ensures, ← c.in_err-agree.ensures))

pub returns : goal.returns
unfolding and_then checked
returns c =
    rw (
      ← read_onward c.args.s.now c.args.asked,
      ← c.in_ok-v.ensures,
      ← c.part-inner.ensures,
      ← c.in_ok-list.ensures,
      ← c.in_ok-all.ensures,
      ← c.in_ok-end_check.ensures,
      ← c.cut-tags.ensures,
      ← c.is_list.ensures,
    )
    (rw (← c.in_ok-unless.ensures, ← c.in_ok-agree.ensures, c.value_for.ensures))
