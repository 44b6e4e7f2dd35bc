-- Each field is copied to its unit.
use Rattle.entry.specs.Inner.Units.{placed_after_key}
use Rattle.entry.proofs.write.put_after_key.Goals as goal

pub returns : goal.returns
unfolding placed_after_key
returns c =
    let code = c in
    rw (c.copy_at-2.ensures, code.copy_at.ensures)
