-- The two tests.
use Rattle.zone.specs.Alphabet.{is_filler}
use Rattle.text.proofs.fields.is_number.Goals as goal

pub returns : goal.returns
unfolding is_filler
returns c = rw (c.is_ended.ensures, c.octet.ensures)
