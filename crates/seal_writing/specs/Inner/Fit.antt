-- Whether a text was written.
use Rattle.std.specs.Prelude.{Bool, true, false}
use Rattle.refusal.specs.Length.{Length, written, refused}

unfoldable pub is_written : Length → Bool
is_written (written n) = true
is_written (refused why place) = false
