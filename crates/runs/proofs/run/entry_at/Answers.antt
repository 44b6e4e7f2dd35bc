-- By the form that the bits tell.
use mathlib.Core.Path.{sym, ◌∙◌}
use Rattle.cells.specs.Cells.{numbers_at}
use Rattle.units.specs.Unpacked.{bits_within}
use Rattle.runs.specs.Run.{form_in, entry_by}
use Rattle.runs.proofs.run.entry_at.Goals as goal

pub returns-in-Some : goal.returns-in-Some
unfolding form_in numbers_at bits_within
returns-in-Some c =
    let told = rw c.bits.ensures at
    (sym c.entered_as-told.ensures ∙ c.in-Some.is) in
    rw (c.entry_as.ensures, told)

pub returns-in-None : goal.returns-in-None
unfolding form_in numbers_at bits_within entry_by
returns-in-None c =
    let told = rw c.bits.ensures at
    (sym c.entered_as-told.ensures ∙ c.in-None.is) in
    rw (c.no_entry.ensures, told)
