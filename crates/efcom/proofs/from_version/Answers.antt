-- Each element, then its content, then what follows.
use Rattle.std.specs.Prelude.{◌≡◌, not}
use Rattle.tlv.proofs.Told.{exit_read}
use Rattle.lent.specs.Octets.{alike}
use Rattle.tlv.specs.Cut.{cut}
use Rattle.tlv.specs.Versions.{lds17}
use Rattle.tlv.specs.Read.{and_then, checked}
use Rattle.efcom.specs.EfCom.{from_tag_list, from_unicode, from_version}
use Rattle.efcom.proofs.Versions.{either_version, newer_told}
use Rattle.efcom.proofs.from_version.Goals as goal

pub returns-in_err-version : goal.returns-in_err-version
unfolding from_tag_list from_unicode from_version and_then checked
returns-in_err-version c =
    let r = c.from_residual in
    rw (exit_read _ r.result r.ensures.1, ← c.in_err-version.ensures)

pub returns-in_err-unless : goal.returns-in_err-unless
unfolding from_tag_list from_unicode from_version and_then checked
returns-in_err-unless c =
    let r = c.from_residual-in_err-unless in
    rw (
      exit_read _ r.result r.ensures.1,
      ← c.in_ok-version.ensures,
      ← either_version c.args.s.now c.in_ok-version.version,
      ← c.is_version-older.ensures,
      ← c.is_version.ensures,
      ← c.in_err-unless.ensures,
    )

pub returns-in_err-unicode : goal.returns-in_err-unicode
unfolding from_tag_list from_unicode from_version and_then checked
returns-in_err-unicode c =
    let r = c.from_residual-in_err-unicode in
    rw (
      exit_read _ r.result r.ensures.1,
      ← c.in_ok-version.ensures,
      ← either_version c.args.s.now c.in_ok-version.version,
      ← c.is_version-older.ensures,
      ← c.is_version.ensures,
      ← c.in_ok-unless.ensures,
      ← c.in_err-unicode.ensures,
    )

pub returns-in_err-unless-2 : goal.returns-in_err-unless-2
unfolding from_tag_list from_unicode from_version and_then checked
returns-in_err-unless-2 c =
    let r = c.from_residual-in_err-unless-2 in
    rw (
      exit_read _ r.result r.ensures.1,
      ← c.in_ok-version.ensures,
      ← either_version c.args.s.now c.in_ok-version.version,
      ← c.is_version-older.ensures,
      ← c.is_version.ensures,
      ← c.in_ok-unless.ensures,
      ← c.in_ok-unicode.ensures,
      ← c.is_unicode.ensures,
      ← c.in_err-unless-2.ensures,
    )

pub returns-in_err-tags : goal.returns-in_err-tags
unfolding from_tag_list from_unicode from_version and_then checked
returns-in_err-tags c =
    let r = c.from_residual-in_err-tags in
    rw (
      exit_read _ r.result r.ensures.1,
      ← c.in_ok-version.ensures,
      ← either_version c.args.s.now c.in_ok-version.version,
      ← c.is_version-older.ensures,
      ← c.is_version.ensures,
      ← c.in_ok-unless.ensures,
      ← c.in_ok-unicode.ensures,
      ← c.is_unicode.ensures,
      ← c.in_ok-unless-2.ensures,
      ← c.in_err-tags.ensures,
    )

pub returns-in_err-tags_check : goal.returns-in_err-tags_check
unfolding from_tag_list from_unicode from_version and_then checked
returns-in_err-tags_check c =
    let r = c.from_residual-in_err-tags_check in
    rw (
      exit_read _ r.result r.ensures.1,
      ← c.in_ok-version.ensures,
      ← either_version c.args.s.now c.in_ok-version.version,
      ← c.is_version-older.ensures,
      ← c.is_version.ensures,
      ← c.in_ok-unless.ensures,
      ← c.in_ok-unicode.ensures,
      ← c.is_unicode.ensures,
      ← c.in_ok-unless-2.ensures,
      ← c.in_ok-tags.ensures,
      ← c.in_err-tags_check.ensures,
    )

pub returns-in_err-end_check : goal.returns-in_err-end_check
unfolding from_tag_list from_unicode from_version and_then checked
returns-in_err-end_check c =
    let r = c.from_residual-in_err-end_check in
    rw (
      exit_read _ r.result r.ensures.1,
      ← c.in_ok-version.ensures,
      ← either_version c.args.s.now c.in_ok-version.version,
      ← c.is_version-older.ensures,
      ← c.is_version.ensures,
      ← c.in_ok-unless.ensures,
      ← c.in_ok-unicode.ensures,
      ← c.is_unicode.ensures,
      ← c.in_ok-unless-2.ensures,
      ← c.in_ok-tags.ensures,
      ← c.in_ok-tags_check.ensures,
      ← c.in_err-end_check.ensures,
    )

pub returns : goal.returns
unfolding from_tag_list from_unicode from_version and_then checked
returns c =
    let passed = rw (c.is_version-older.ensures, c.is_version.ensures) at c.in_ok-unless.ensures in
    let v = c.in_ok-version.version in
    let newer : not c.is_version-older.result ≡ not (alike (cut c.args.s.now v) lds17) =
    rw c.is_version-older.ensures (newer_told c.args.s.now v c.args.at passed) in
    rw (
      newer,
      ← c.in_ok-version.ensures,
      ← either_version c.args.s.now c.in_ok-version.version,
      ← c.is_version-older.ensures,
      ← c.is_version.ensures,
      ← c.in_ok-unless.ensures,
      ← c.in_ok-unicode.ensures,
      ← c.is_unicode.ensures,
      ← c.in_ok-unless-2.ensures,
      ← c.in_ok-tags.ensures,
      ← c.in_ok-tags_check.ensures,
      ← c.in_ok-end_check.ensures,
    )
