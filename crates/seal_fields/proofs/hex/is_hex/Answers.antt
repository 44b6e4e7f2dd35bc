-- The tests are those of `is_hex`.
use Rattle.seal_fields.specs.Hex.{is_hex_letter, is_hex}
use Rattle.seal_fields.proofs.hex.is_hex.Goals as goal

pub returns : goal.returns
unfolding is_hex is_hex_letter
returns c = rw c.is_digit.ensures
