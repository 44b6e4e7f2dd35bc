-- Both comparisons.
use Rattle.chip.proofs.versions.are_said.Goals as goal

pub returns : goal.returns
returns c = rw (
  c.alike-2.ensures,
  c.cut-3.ensures,
  c.cut-2.ensures,
  c.alike.ensures,
  c.cut.ensures,
)
