-- FF, and one, two or three octets of length.
use native.Mathlib.Omega.{arith}
use Rattle.seal_writing.proofs.PartsPut.{start_short, start_longer, start_longest}
use Rattle.seal_writing.proofs.parts.start_width.Goals as goal

pub returns-in-0-to-127 : goal.returns-in-0-to-127
returns-in-0-to-127 c = (rw (start_short c.args.n (omega arith)), omega arith)

pub returns-in-128-to-255 : goal.returns-in-128-to-255
returns-in-128-to-255 c = (rw (start_longer c.args.n (omega arith) (omega arith)), omega arith)

pub returns-in_default : goal.returns-in_default
returns-in_default c = (rw (start_longest c.args.n (omega arith)), omega arith)
