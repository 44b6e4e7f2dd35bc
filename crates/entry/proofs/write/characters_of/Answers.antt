-- The fields over fillers, one behind the other (`copied_placed`).
use Rattle.sound.proofs.SoundRecord.{taken_apart}
use Rattle.entry.proofs.Placing.{copied_placed}
use Rattle.entry.proofs.Values.{own_taken}
use Rattle.entry.proofs.write.characters_of.Goals as goal

pub returns : goal.returns
returns c =
    let start = c in
    let r = start.args.r in
    let s = taken_apart r start.requires in
    let second = c in
    rw (c.put_rest.ensures, second.put_after_key.ensures, second.put_key.ensures)
    (copied_placed r s (own_taken r s))
