-- Three parts, one behind the other.
use Rattle.seal_writing.proofs.PartsPut.{back_put}
use Rattle.seal_writing.proofs.parts.put_back.Goals as goal

pub returns : goal.returns
returns c =
    let mid = c in
    let far = mid in
    let a = far.args in
    let first = rw mid.octets_of-first.ensures at
    mid.copy_at.ensures in
    let second = rw mid.octets_of-second.ensures at
    c.copy_at-2.ensures in
    back_put a.out.now mid.copy_at.new.to
    c.copy_at-2.new.to c.copy_at-3.new.to
    a.at a.issued
    a.signed far.requires first second c.copy_at-3.ensures
