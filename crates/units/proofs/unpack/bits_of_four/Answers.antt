-- A field of them (`within-four`).
use borrow.Author.Rules.{rules}
use Rattle.units.proofs.Reading.{within_four}
use Rattle.units.proofs.unpack.bits_of_four.Goals as goal

pub returns : goal.returns
returns c =
    let a = c.args in
    (rw c.four_octets.ensures (within_four a.s.now a.at a.bit (search rules)), search rules)
