-- Four characters and two.
use borrow.Author.Rules.{rules}
use Rattle.seal_fields.specs.Hex.{hexadecimal}
use Rattle.seal_writing.proofs.PartsPut.{six_joined}
use Rattle.seal_writing.proofs.parts.six_of.Goals as goal

pub returns : goal.returns
unfolding hexadecimal
returns c = rw (c.copy.ensures, c.two_of-two.ensures)
    (six_joined _ _ c.args.signer (search rules))
