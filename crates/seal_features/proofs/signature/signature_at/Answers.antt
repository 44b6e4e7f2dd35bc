-- An element FF that ends where the seal does.
use Rattle.tlv.proofs.Told.{exit_read}
use Rattle.tlv.specs.Read.{and_then, checked}
use Rattle.seal_features.specs.Signature.{signature_at}
use Rattle.seal_features.proofs.signature.signature_at.Goals as goal

pub returns-in_err-v : goal.returns-in_err-v
unfolding signature_at and_then
returns-in_err-v c =
    rw (exit_read _ c.from_residual.result c.from_residual.ensures.1, ← c.element.ensures, ← c.in_err-v.ensures)

pub returns-in_err-unless : goal.returns-in_err-unless
unfolding signature_at and_then checked
returns-in_err-unless c =
    let r = c.from_residual-in_err-unless in
    rw (exit_read _ r.result r.ensures.1, ← c.element.ensures, ← c.in_ok-v.ensures, ← c.in_err-unless.ensures)

pub returns : goal.returns
unfolding signature_at and_then checked
returns c = rw (← c.element.ensures, ← c.in_ok-v.ensures, ← c.in_ok-unless.ensures)
