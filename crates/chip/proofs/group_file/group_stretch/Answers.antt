-- What stands before the files, and then the first of the group among these.
use mathlib.Core.Path.{sym, ◌∙◌}
use Rattle.chip.proofs.Front.{group_behind, group_without}
use Rattle.chip.proofs.group_file.group_stretch.Goals as goal

pub returns-in-Ok : goal.returns-in-Ok
returns-in-Ok c =
    let a = c.args in
    let parts = c.in-Ok in
    c.group_from.ensures ∙ sym (group_behind a.w.now a.group parts.parts (sym parts.ensures))

pub returns-in-Err : goal.returns-in-Err
returns-in-Err c = sym (group_without c.args.w.now c.args.group _ _ (sym c.in-Err.ensures))
