-- Each return by the tests that led to it; the copy leaves all but 32 octets (`front_copied`).
use mathlib.Core.Path.{◌∙◌}
use borrow.Author.Tests.{le-leb, lt-leb}
use borrow.Author.Rules.{rules}
use Rattle.digest.specs.Answer.{digest_answer, digest_out}
use Rattle.sha256.proofs.ListLaws.{front_copied}
use Rattle.digest.proofs.digest.Goals as goal

pub returns-then-input-gt65535 : goal.returns-then-input-gt65535
unfolding digest_answer digest_out
returns-then-input-gt65535 c = let e = lt-leb _ _ c.if-input-gt65535.true in record { answer = rw e; output = rw e }

pub returns-then-out-lt32 : goal.returns-then-out-lt32
unfolding digest_answer digest_out
returns-then-out-lt32 c = let e = le-leb _ _ c.if-input-gt65535.false in
    let f = lt-leb _ _ c.if-out-lt32.true in
    record { answer = rw (e, f); output = rw (e, f) }

pub returns : goal.returns
unfolding digest_answer digest_out
returns c = let e = le-leb _ _ c.if-input-gt65535.false in
    let f = le-leb _ _ c.if-out-lt32.false in
    let d = c.digest_of-octets in
    let copied = front_copied d.result
    c.args.out.now (search rules)
    (search rules) in
    record { answer = rw (e, f); output = rw (e, f) (c.copy.ensures ∙ rw (copied, d.ensures)) }
