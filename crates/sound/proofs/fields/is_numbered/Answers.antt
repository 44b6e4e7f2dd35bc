-- The tests are those of `is_numbered`.
use Rattle.sound.specs.Sound.{is_numbered}
use Rattle.sound.proofs.fields.is_numbered.Goals as goal

pub returns : goal.returns
unfolding is_numbered
returns c = rw (
  c.is_number.ensures,
  c.is_held.ensures,
  c.longest_number.ensures,
)
