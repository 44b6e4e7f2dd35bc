-- The first file of group 1, and the text inside it.
use Rattle.std.proofs.lemmas.Result.{err_from_is_err_and}
use Rattle.tlv.specs.Read.{and_then}
use Rattle.chip.specs.Presentation.{group_one}
use Rattle.chip.proofs.group_one.group_one.Goals as goal

pub returns-in_err-file : goal.returns-in_err-file
unfolding group_one and_then
returns-in_err-file c =
    let p = err_from_is_err_and c.from_residual.result c.from_residual.ensures.1 in
    rw (p.1, p.2, ← c.in_err-file.ensures)

pub returns : goal.returns
unfolding group_one and_then
returns c = rw (← c.in_ok-file.ensures, ← c.part.ensures) c.text_at.ensures
