-- The two characters.
use Rattle.seal_fields.specs.Hex.{hexadecimal}
use Rattle.seal_fields.proofs.hex.two_of.Goals as goal

pub returns : goal.returns
unfolding hexadecimal
returns c = rw (c.hex_digit-2.ensures, c.hex_digit.ensures)
