-- The four tests of the definition, in its order.
use Rattle.inside.specs.Templates.{count_holds}
use Rattle.inside.specs.Inner.Tally.{tally_of, tallied}
use Rattle.inside.proofs.templates.count_holds.Goals as goal

pub returns : goal.returns
unfolding count_holds tally_of tallied
returns c = rw (
  c.octet-2.ensures,
  c.octet.ensures,
  c.tally_of-held.ensures,
  c.octet-n.ensures,
)
