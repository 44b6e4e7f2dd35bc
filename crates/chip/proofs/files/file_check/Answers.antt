-- The tests of the definition, in its order.
use mathlib.Core.Path.{ap, ◌∙◌}
use Rattle.refusal.specs.Outcome.{unless}
use Rattle.chip.specs.Files.{file_octets}
use Rattle.chip.specs.Inner.ByTable.{file_by}
use Rattle.chip.proofs.files.file_check.Goals as goal

pub returns-then-stands-place : goal.returns-then-stands-place
unfolding file_by file_octets
returns-then-stands-place c = let same = rw (c.part.ensures, c.cut-file.ensures) at
    c.is_digested-same.ensures in
    rw (← c.stands.ensures, c.if-stands-place.true)
    (c.unless.ensures ∙ ap (λ b. unless b 15
    c.args.at) same)

pub returns : goal.returns
unfolding file_by file_octets
returns c = rw (← c.stands.ensures, c.if-stands-place.false, c.at.ensures)
