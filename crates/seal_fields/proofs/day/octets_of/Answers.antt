-- The three octets of the number, each below 256.
use native.Mathlib.Nat.{mod-mod}
use Rattle.c40.specs.Inner.Imaged.{reduced}
use Rattle.seal_fields.specs.Day.{day_number, three_octets, day_octets}
use Rattle.seal_fields.proofs.day.octets_of.Goals as goal

pub returns : goal.returns
unfolding reduced day_octets three_octets day_number
returns c = rw (mod-mod, mod-mod)
