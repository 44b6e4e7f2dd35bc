-- The table has the characters by their codes.
use Rattle.zone.specs.Codes.{character_of}
use Rattle.zone.proofs.Coding.{by_code, by_code_lem}
use Rattle.zone.proofs.codes.characters.Goals as goal

pub returns : goal.returns
unfolding character_of by_code
returns c = by_code_lem
