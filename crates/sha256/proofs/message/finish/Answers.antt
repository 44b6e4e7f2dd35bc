-- A short end fills one block, a long one two (`finish_one`, `finish_two`).
use Rattle.sha256.proofs.ChainLaws.{finish_one, finish_two}
use Rattle.sha256.proofs.message.finish.Goals as goal

pub returns-then-rest-lt56 : goal.returns-then-rest-lt56
returns-then-rest-lt56 c = let a = c.args in
    rw (c.compress.ensures, c.sized-last.ensures, c.marked-block.ensures)
    (finish_one a.hash a.rest.now a.n c.requires
    c.if-rest-lt56.true)

pub returns : goal.returns
returns c = let a = c.args in
    rw (
      c.compress-2.ensures,
      c.sized-last-2.ensures,
      c.compress-next.ensures,
      c.marked-block.ensures,
    )
    (finish_two a.hash a.rest.now a.n c.requires
    c.if-rest-lt56.false)
