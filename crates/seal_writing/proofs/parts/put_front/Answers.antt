-- Three parts, one behind the other.
use borrow.Author.Rules.{rules}
use Rattle.seal_writing.proofs.PartsPut.{front_put}
use Rattle.seal_writing.proofs.parts.put_front.Goals as goal

pub returns : goal.returns
returns c =
    let mid = c in
    let far = mid in
    let a = far.args in
    let six = rw c.six_of-six.ensures at c.put_at-2.ensures in
    front_put a.out.now mid.copy_at.new.to
    c.put_at.new.out
    c.put_at-2.new.out a.version a.country
    a.signer a.n far.requires (search rules) (search rules)
    mid.copy_at.ensures
    c.put_at.ensures six
