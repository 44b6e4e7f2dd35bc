-- The signature, then the text with its fillers.
use Rattle.std.proofs.lemmas.Result.{err_from_is_err_and}
use Rattle.tlv.specs.Read.{and_then}
use Rattle.seal.specs.Seal.{with_image, answer_of}
use Rattle.seal.proofs.read.with_image.Goals as goal

pub returns-in_err-signature : goal.returns-in_err-signature
unfolding with_image and_then answer_of
returns-in_err-signature c =
    let p = err_from_is_err_and c.from_residual.result c.from_residual.ensures.1 in
    rw (p.1, p.2, ← c.in_err-signature.ensures)

pub returns : goal.returns
unfolding with_image and_then
returns c = rw (← c.in_ok-signature.ensures, ← c.to_fillers.ensures, ← c.read.ensures) c.with_text.ensures
