-- The entry's octets stand alone, and their characters are unpacked.
use Rattle.runs.specs.Inner.Units.{held}
use Rattle.runs.proofs.record.read_units.Goals as goal

pub returns : goal.returns
unfolding held
returns c =
    let unpacked = c in
    let copied = unpacked in
    rw (
      unpacked.unpack_units.ensures,
      copied.copy.ensures,
      copied.part.ensures,
      copied.size.ensures.0,
    )
