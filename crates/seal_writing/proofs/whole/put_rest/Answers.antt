-- A text and a signature.
use borrow.Author.Rules.{rules}
use Rattle.seal_writing.proofs.WholePut.{rest_put}
use Rattle.seal_writing.proofs.whole.put_rest.Goals as goal

pub returns : goal.returns
returns c =
    let mid = c in
    let a = mid.args in
    rest_put a.out.now c.put_at.new.out
    c.put_zone.new.out a.at a.text a.signature.now (search rules)
    mid.requires.1 c.put_at.ensures
    c.put_zone.ensures
