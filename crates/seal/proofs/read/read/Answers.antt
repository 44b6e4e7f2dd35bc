-- Size, then the header, then what stands behind it.
use borrow.Author.Tests.{le-leb, lt-leb}
use Rattle.std.proofs.lemmas.Result.{err_from_is_err_and}
use Rattle.tlv.specs.Read.{and_then, checked}
use Rattle.seal_header.specs.Header.{header_check, header_of, header_end}
use Rattle.seal.specs.Seal.{said_in, read_seal, with_header, answer_of}
use Rattle.seal.proofs.read.read.Goals as goal

pub returns-then-s-gt65535 : goal.returns-then-s-gt65535
unfolding read_seal said_in checked answer_of
returns-then-s-gt65535 c = rw (c.at.ensures, lt-leb _ _ c.if-s-gt65535.true)

pub returns-in_err-headed : goal.returns-in_err-headed
unfolding read_seal said_in checked answer_of header_check header_of header_end
returns-in_err-headed c =
    let h = c.read-headed.ensures in
    let p = err_from_is_err_and c.from_residual.result c.from_residual.ensures.1 in
    rw (p.1, p.2, le-leb _ _ c.if-s-gt65535.false, ← h.decided, c.in_err-headed.was)

pub returns-in_err-found : goal.returns-in_err-found
unfolding read_seal said_in checked with_header and_then answer_of header_check header_of header_end
returns-in_err-found c =
    let h = c.read-headed.ensures in
    let r = c.from_residual-in_err-found in
    let p = err_from_is_err_and r.result r.ensures.1 in
    rw (p.1, p.2, le-leb _ _ c.if-s-gt65535.false, ← h.decided, c.in_ok-headed.was, ← h.ends, ← c.in_err-found.ensures)

pub returns : goal.returns
unfolding read_seal said_in checked with_header and_then header_check header_of header_end
returns c =
    let h = c.read-headed.ensures in
    rw (
      le-leb _ _ c.if-s-gt65535.false,
      ← h.decided,
      c.in_ok-headed.was,
      ← h.said,
      ← h.ends,
      ← c.in_ok-found.ensures,
    )
    c.with_features.ensures
