-- The tests are those of `is_number`, the last on what stands behind the ninth.
use borrow.Author.Rules.{rules}
use Rattle.zone.specs.Alphabet.{is_filler}
use Rattle.sound.specs.Sound.{is_number, is_solid}
use Rattle.sound.proofs.Rooms.{from_tenth}
use Rattle.sound.proofs.fields.is_number.Goals as goal

pub returns : goal.returns
unfolding is_number is_solid is_filler
returns c = let a = c.args in
    rw (
      c.every.ensures,
      c.octet.ensures,
      c.all_characters.ensures,
      c.part-further.ensures,
      c.part.ensures,
      from_tenth a.n a.s.now,
    )
