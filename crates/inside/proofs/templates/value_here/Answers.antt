-- Behind the tag stands the length.
use native.Mathlib.Omega.{arith}
use Rattle.tlv.specs.Places.{stretch_at}
use Rattle.inside.specs.Templates.{value_here}
use Rattle.inside.proofs.templates.value_here.Goals as goal

pub value_by-requires : goal.value_by-requires
unfolding value_here stretch_at
value_by-requires c = omega (arith, c.tag_end.ensures.1, c.requires)

pub returns : goal.returns
unfolding value_here stretch_at
returns c = (
  rw (c.value_by.ensures.0, c.tag_end.ensures.0),
  omega
      (arith, c.value_by.ensures.1, c.tag_end.ensures.1),
)
