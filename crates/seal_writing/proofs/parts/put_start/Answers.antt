-- The three kinds of length.
use Rattle.seal_writing.proofs.PartsPut.{start_short, start_longer, start_longest}
use Rattle.seal_writing.proofs.parts.put_start.Goals as goal

pub returns-then-n-le127 : goal.returns-then-n-le127
returns-then-n-le127 c =
    rw (start_short c.args.n
    c.if-n-le127.true) c.copy_at.ensures

pub returns-then-n-le255 : goal.returns-then-n-le255
returns-then-n-le255 c =
    rw (start_longer c.args.n
    c.if-n-le127.false
    c.if-n-le255.true) c.copy_at-then-n-le255.ensures

pub returns : goal.returns
returns c =
    rw (start_longest c.args.n
    c.if-n-le255.false) c.copy_at-2.ensures
