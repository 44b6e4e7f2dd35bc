-- What lies behind the seal stays.
use mathlib.Core.Path.{sym, ◌∙◌}
use borrow.Author.Tests.{le-leb, lt-leb}
use lib.ListN.{length}
use Rattle.writing.proofs.Fitted.{front_length}
use Rattle.seal_writing.proofs.WholePut.{signature_within}
use Rattle.seal_writing.proofs.write.write_parts.Goals as goal

pub slice_bounds-put_seal-end-then-wide-out : goal.slice_bounds-put_seal-end-then-wide-out
slice_bounds-put_seal-end-then-wide-out c =
    front_length c.args.wide c.args.out.now
    c.if-wide-out.true

pub put_seal-requires : goal.put_seal-requires
put_seal-requires c =
    let a = c.args in (
      signature_within a.h.reference_len a.signature.now a.wide c.requires.0
          c.requires.1,
      sym (front_length a.wide a.out.now c.if-wide-out.true) ∙ c.requires.0,
    )

pub returns-then-wide-out : goal.returns-then-wide-out
returns-then-wide-out c =
    let fits = le-leb c.args.wide
    (length c.args.out.now)
    c.if-wide-out.true in
    record {
      result_value = rw fits;
      out_after = rw (fits, c.put_seal.ensures);
    }

pub returns-else-wide-out : goal.returns-else-wide-out
returns-else-wide-out c =
    let short = lt-leb c.args.wide (length c.args.out.now)
    c.if-wide-out.false in
    record {
      result_value = rw short;
      out_after = rw short;
    }
