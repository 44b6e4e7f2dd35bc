-- A copy to the front of zeros, and one store behind it (`mark_after`).
use Rattle.sha256.proofs.PaddingLaws.{mark_after}
use Rattle.sha256.proofs.message.marked.Goals as goal

pub returns : goal.returns
returns c = rw c.copy.ensures
    (mark_after c.args.rest.now c.requires)
