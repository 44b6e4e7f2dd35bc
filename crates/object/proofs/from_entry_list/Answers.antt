-- The list, what is in it, the tests on that, and what stands behind it.
use Rattle.tlv.proofs.Told.{exit_read}
use Rattle.tlv.specs.Read.{and_then, checked}
use Rattle.object.specs.Object.{version_at, from_entry_list}
use Rattle.object.specs.Inner.Seen.{kept}
use Rattle.object.proofs.EntriesByTable.{walk_told}
use Rattle.object.proofs.from_entry_list.Goals as goal

pub returns-in_err-list : goal.returns-in_err-list
unfolding kept from_entry_list and_then checked
returns-in_err-list c =
    let r = c.from_residual in
    rw (exit_read _ r.result r.ensures.1, ← c.in_err-list.ensures)

pub returns-in_err-seen : goal.returns-in_err-seen
unfolding kept from_entry_list and_then checked
returns-in_err-seen c =
    let seen = c.from_residual-in_err-seen in
    rw (exit_read _ seen.result seen.ensures.1, ← c.in_ok-list.ensures)
    (rw (
      ← walk_told c.args.s.now c.args.at c.in_ok-list.list.from c.in_ok-list.list.to
          (version_at c.args.newer c.args.s.now c.in_ok-list.list.to),
      ← c.part.ensures,
      ← c.in_err-seen.ensures,
    ))

pub returns-in_err-seen_check : goal.returns-in_err-seen_check
unfolding kept from_entry_list and_then checked
returns-in_err-seen_check c =
    let r = c.from_residual-in_err-seen_check in
    rw (
      exit_read _ r.result r.ensures.1,
      ← c.in_ok-list.ensures,
      ← walk_told c.args.s.now c.args.at c.in_ok-list.list.from c.in_ok-list.list.to
          (version_at c.args.newer c.args.s.now c.in_ok-list.list.to),
      ← c.part.ensures,
    )
    (rw (← c.in_ok-seen.ensures, ← c.in_err-seen_check.ensures))

pub returns-in_err-version : goal.returns-in_err-version
unfolding kept from_entry_list and_then checked
returns-in_err-version c =
    let r = c.from_residual-in_err-version in
    rw (
      exit_read _ r.result r.ensures.1,
      ← c.in_ok-list.ensures,
      ← walk_told c.args.s.now c.args.at c.in_ok-list.list.from c.in_ok-list.list.to
          (version_at c.args.newer c.args.s.now c.in_ok-list.list.to),
      ← c.part.ensures,
    )
    (rw (← c.in_ok-seen.ensures, ← c.in_ok-seen_check.ensures, ← c.in_err-version.ensures))

pub returns : goal.returns
unfolding kept from_entry_list and_then checked
returns c =
    rw (
      ← c.in_ok-list.ensures,
      ← walk_told c.args.s.now c.args.at c.in_ok-list.list.from c.in_ok-list.list.to
          (version_at c.args.newer c.args.s.now c.in_ok-list.list.to),
      ← c.part.ensures,
    )
    (rw (← c.in_ok-seen.ensures, ← c.in_ok-seen_check.ensures, ← c.in_ok-version.ensures))
