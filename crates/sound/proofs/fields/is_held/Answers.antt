-- The tests are those of `is_held`.
use Rattle.sound.specs.Sound.{is_held}
use Rattle.sound.proofs.fields.is_held.Goals as goal

pub returns : goal.returns
unfolding is_held
returns c = rw c.trimmed_length.ensures
