-- Each field is copied to its unit.
use Rattle.entry.specs.Inner.Units.{placed_key}
use Rattle.entry.proofs.write.put_key.Goals as goal

pub returns : goal.returns
unfolding placed_key
returns c =
    let expiry = c in
    let birth = expiry in
    let number = birth in
    let state = number in
    rw (expiry.copy_at-4.ensures, birth.copy_at-3.ensures, number.copy_at-2.ensures, state.copy_at.ensures)
