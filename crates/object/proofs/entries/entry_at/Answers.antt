-- The sequence, and in it each element, then its content.
use Rattle.tlv.proofs.Told.{exit_read}
use Rattle.tlv.specs.Read.{and_then, checked}
use Rattle.object.specs.Object.{digest_at, number_at, entry_at}
use Rattle.object.proofs.entries.entry_at.Goals as goal

pub returns-in_err-entry : goal.returns-in_err-entry
unfolding entry_at number_at digest_at and_then checked
returns-in_err-entry c =
    let r = c.from_residual in
    rw (exit_read _ r.result r.ensures.1, ← c.in_err-entry.ensures)

pub returns-in_err-number : goal.returns-in_err-number
unfolding entry_at number_at digest_at and_then checked
returns-in_err-number c =
    let r = c.from_residual-in_err-number in
    rw (
      exit_read _ r.result r.ensures.1,
      ← c.in_ok-entry.ensures,
      ← c.part-inner.ensures,
      ← c.in_err-number.ensures,
    )

pub returns-in_err-unless : goal.returns-in_err-unless
unfolding entry_at number_at digest_at and_then checked
returns-in_err-unless c =
    let r = c.from_residual-in_err-unless in
    rw (
      exit_read _ r.result r.ensures.1,
      ← c.in_ok-entry.ensures,
      ← c.part-inner.ensures,
      ← c.in_ok-number.ensures,
      ← c.is_group_number.ensures,
      ← c.in_err-unless.ensures,
    )

pub returns-in_err-digest : goal.returns-in_err-digest
unfolding entry_at number_at digest_at and_then checked
returns-in_err-digest c =
    let r = c.from_residual-in_err-digest in
    rw (
      exit_read _ r.result r.ensures.1,
      ← c.in_ok-entry.ensures,
      ← c.part-inner.ensures,
      ← c.in_ok-number.ensures,
      ← c.is_group_number.ensures,
      ← c.in_ok-unless.ensures,
      ← c.in_err-digest.ensures,
    )

pub returns-in_err-unless-2 : goal.returns-in_err-unless-2
unfolding entry_at number_at digest_at and_then checked
returns-in_err-unless-2 c =
    let r = c.from_residual-in_err-unless-2 in
    rw (
      exit_read _ r.result r.ensures.1,
      ← c.in_ok-entry.ensures,
      ← c.part-inner.ensures,
      ← c.in_ok-number.ensures,
      ← c.is_group_number.ensures,
      ← c.in_ok-unless.ensures,
      ← c.in_ok-digest.ensures,
      ← c.has_octets.ensures,
      ← c.in_err-unless-2.ensures,
    )

pub returns-in_err-end_check : goal.returns-in_err-end_check
unfolding entry_at number_at digest_at and_then checked
returns-in_err-end_check c =
    let r = c.from_residual-in_err-end_check in
    rw (
      exit_read _ r.result r.ensures.1,
      ← c.in_ok-entry.ensures,
      ← c.part-inner.ensures,
      ← c.in_ok-number.ensures,
      ← c.is_group_number.ensures,
      ← c.in_ok-unless.ensures,
      ← c.in_ok-digest.ensures,
      ← c.has_octets.ensures,
      ← c.in_ok-unless-2.ensures,
      ← c.in_err-end_check.ensures,
    )

pub returns : goal.returns
unfolding entry_at number_at digest_at and_then checked
returns c = rw (
  ← c.in_ok-entry.ensures,
  ← c.part-inner.ensures,
  ← c.in_ok-number.ensures,
  ← c.is_group_number.ensures,
  ← c.in_ok-unless.ensures,
  ← c.in_ok-digest.ensures,
  ← c.has_octets.ensures,
  ← c.in_ok-unless-2.ensures,
  ← c.in_ok-end_check.ensures,
  ← c.octet.ensures,
)
