-- Each stage refuses or goes on to the next; the table that stage 4 hands on decides as the entries do.
use mathlib.Core.Path.{ap, sym, ◌∙◌}
use Rattle.std.proofs.lemmas.Result.{err_from_is_err_and}
use Rattle.text.specs.Read.{answer_of}
use Rattle.tlv.specs.Cut.{cut}
use Rattle.tlv.specs.Read.{and_then, checked}
use Rattle.tlv.specs.Versions.{both}
use Rattle.object.specs.Object.{read_object}
use Rattle.group_text.specs.Text.{answer_by}
use Rattle.group_text.proofs.Answered.{answered_by}
use Rattle.chip.specs.Versions.{versions_check}
use Rattle.chip.specs.Presentation.{decided, read_stages, read_presentation}
use Rattle.chip.proofs.FilesByTable.{walked_files}
use Rattle.chip.proofs.StagesByTable.{by_object, refused_object, refused_version}
use Rattle.chip.proofs.presentation.read.Goals as goal

pub returns-in_err-parts : goal.returns-in_err-parts
unfolding read_presentation read_stages and_then answer_of answer_by
returns-in_err-parts c =
    let p = err_from_is_err_and c.from_residual.result c.from_residual.ensures.1 in
    rw (p.1, p.2, ← c.in_err-parts.ensures)

pub returns-in_err-common : goal.returns-in_err-common
unfolding read_presentation read_stages decided and_then answer_of answer_by
returns-in_err-common c =
    let r = c.from_residual-in_err-common in
    let p = err_from_is_err_and r.result r.ensures.1 in
    rw (p.1, p.2, ← c.in_ok-parts.ensures, ← c.in_err-common.ensures)

pub returns-in_err-object : goal.returns-in_err-object
unfolding read_presentation read_stages decided and_then answer_of answer_by
returns-in_err-object c =
    let w = c.args.w.now in
    let parts = c.in_ok-parts.parts in
    let common = c.in_ok-common.common in
    let r = c.from_residual-in_err-object in
    let told = err_from_is_err_and r.result r.ensures.1 in
    rw (told.1, told.2, ← c.in_ok-parts.ensures, ← c.in_ok-common.ensures)
    (ap answer_by (sym (refused_object w (cut w common.tags) parts.object.to (versions_check w parts.efcom.to common)
    (read_object both w parts.object) _ _ c.in_err-object.ensures)))

pub returns-in_err-versions_check : goal.returns-in_err-versions_check
unfolding read_presentation read_stages decided and_then answer_of answer_by
returns-in_err-versions_check c =
    let w = c.args.w.now in
    let parts = c.in_ok-parts.parts in
    let common = c.in_ok-common.common in
    let r = c.from_residual-in_err-versions_check in
    let p = err_from_is_err_and r.result r.ensures.1 in
    rw (p.1, p.2, ← c.in_ok-parts.ensures, ← c.in_ok-common.ensures)
    (ap answer_by (sym (refused_version w (cut w common.tags) parts.object.to (versions_check w parts.efcom.to common)
    (read_object both w parts.object) _ c.in_ok-object.ensures _ _ (sym c.in_err-versions_check.ensures))))

pub files_check-requires : goal.files_check-requires
files_check-requires c = walked_files c.args.w.now c.in_ok-parts.parts (sym c.in_ok-parts.ensures)

pub group_one-requires : goal.group_one-requires
group_one-requires c = walked_files c.args.w.now c.in_ok-parts.parts (sym c.in_ok-parts.ensures)

pub returns-in_err-files_check : goal.returns-in_err-files_check
unfolding read_presentation read_stages decided and_then answer_of answer_by checked
returns-in_err-files_check c =
    let w = c.args.w.now in
    let parts = c.in_ok-parts.parts in
    let common = c.in_ok-common.common in
    let r = c.from_residual-in_err-files_check in
    let p = err_from_is_err_and r.result r.ensures.1 in
    let read = c.in_ok-object.ensures in
    let bad = sym (rw c.cut.ensures at c.in_err-files_check.ensures) in
    let all = by_object w (cut w common.tags) parts.object.to (versions_check w parts.efcom.to common)
    (read_object both w parts.object) _ read (sym c.in_ok-versions_check.ensures)
    (walked_files w parts (sym c.in_ok-parts.ensures)) in
    rw (p.1, p.2, ← c.in_ok-parts.ensures, ← c.in_ok-common.ensures) (ap answer_by (rw bad at all))

pub returns : goal.returns
unfolding read_presentation read_stages decided and_then checked
returns c =
    let w = c.args.w.now in
    let parts = c.in_ok-parts.parts in
    let common = c.in_ok-common.common in
    let object = c.in_ok-object.ensures in
    let good = sym (rw c.cut.ensures at c.in_ok-files_check.ensures) in
    let all = by_object w (cut w common.tags) parts.object.to (versions_check w parts.efcom.to common)
    (read_object both w parts.object) _ object (sym c.in_ok-versions_check.ensures)
    (walked_files w parts (sym c.in_ok-parts.ensures)) in
    rw (← c.in_ok-parts.ensures, ← c.in_ok-common.ensures)
    (answered_by c.group_one.result ∙ (ap answer_by c.group_one.ensures ∙ ap answer_by (rw good at all)))
