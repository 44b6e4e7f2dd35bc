-- The file's name where it is not empty, and else the text's.
use mathlib.Core.Path.{ap, sym, ◌∙◌}
use Rattle.full_name.specs.FullName.{is_empty, full_name}
use Rattle.full_name.proofs.find.Goals as goal

pub returns-then-is_empty : goal.returns-then-is_empty
unfolding full_name
returns-then-is_empty c = let asked = c.is_empty.ensures ∙ ap is_empty c.in_file-held.ensures in
    rw (sym asked ∙ c.if-is_empty.true) c.in_text.ensures

pub returns-else-is_empty : goal.returns-else-is_empty
unfolding full_name
returns-else-is_empty c = let asked = c.is_empty.ensures ∙ ap is_empty c.in_file-held.ensures in
    rw (sym asked ∙ c.if-is_empty.false, c.in_file-held.ensures)
