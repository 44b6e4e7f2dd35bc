-- The tests are those of `is_named`.
use Rattle.sound.specs.Sound.{is_named}
use Rattle.sound.proofs.fields.is_named.Goals as goal

pub returns : goal.returns
unfolding is_named
returns c = rw (
  c.is_name.ensures,
  c.is_held.ensures,
  c.name_width.ensures,
)
