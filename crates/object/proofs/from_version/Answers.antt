-- Each element, then its content, then what follows.
use Rattle.tlv.proofs.Told.{exit_read}
use Rattle.tlv.specs.Read.{and_then, checked}
use Rattle.object.specs.Object.{from_algorithm, from_version}
use Rattle.object.specs.Inner.Seen.{kept}
use Rattle.object.proofs.from_version.Goals as goal

pub returns-in_err-version : goal.returns-in_err-version
unfolding kept from_version from_algorithm and_then checked
returns-in_err-version c =
    let r = c.from_residual in
    rw (exit_read _ r.result r.ensures.1, ← c.in_err-version.ensures)

pub returns-in_err-unless : goal.returns-in_err-unless
unfolding kept from_version from_algorithm and_then checked
returns-in_err-unless c =
    let r = c.from_residual-in_err-unless in
    rw (
      exit_read _ r.result r.ensures.1,
      ← c.in_ok-version.ensures,
      ← c.is_version.ensures,
      ← c.in_err-unless.ensures,
    )

pub returns-in_err-algorithm : goal.returns-in_err-algorithm
unfolding kept from_version from_algorithm and_then checked
returns-in_err-algorithm c =
    let r = c.from_residual-in_err-algorithm in
    rw (
      exit_read _ r.result r.ensures.1,
      ← c.in_ok-version.ensures,
      ← c.is_version.ensures,
      ← c.in_ok-unless.ensures,
      ← c.in_err-algorithm.ensures,
    )

pub returns-in_err-unless-2 : goal.returns-in_err-unless-2
unfolding kept from_version from_algorithm and_then checked
returns-in_err-unless-2 c =
    let r = c.from_residual-in_err-unless-2 in
    rw (
      exit_read _ r.result r.ensures.1,
      ← c.in_ok-version.ensures,
      ← c.is_version.ensures,
      ← c.in_ok-unless.ensures,
      ← c.in_ok-algorithm.ensures,
      ← c.cut.ensures,
      ← c.is_sha256.ensures,
      ← c.in_err-unless-2.ensures,
    )

pub returns : goal.returns
unfolding kept from_version from_algorithm and_then checked
returns c = rw (
  ← c.in_ok-version.ensures,
  ← c.is_version.ensures,
  ← c.in_ok-unless.ensures,
  ← c.in_ok-algorithm.ensures,
  ← c.cut.ensures,
  ← c.is_sha256.ensures,
  ← c.in_ok-unless-2.ensures,
  ← c.octet.ensures,
) c.from_entry_list.ensures
