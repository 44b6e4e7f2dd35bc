-- A copy of a part, the digit of the whole behind it, and a filler.
use Rattle.writing.proofs.number.put_further.Goals as goal

pub returns : goal.returns
returns c =
    let digit = c in
    let part = digit in
    rw (
      c.put-2.ensures,
      digit.put.ensures,
      digit.of-d.ensures,
      digit.copy_at.ensures,
      part.part.ensures,
      part.part-further.ensures,
      part.part-whole.ensures,
    )
