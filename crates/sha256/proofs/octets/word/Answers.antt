-- The word of four octets is the definition's.
use native.Mathlib.Omega.{arith}
use Rattle.sha256.specs.Parsing.{word}
use Rattle.sha256.proofs.octets.word.Goals as goal

pub returns : goal.returns
unfolding word
returns c = omega (arith, c.from_be_bytes.ensures)
