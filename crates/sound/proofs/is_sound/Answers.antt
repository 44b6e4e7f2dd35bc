-- Each field has the length that its type gives; the other tests are those of `is_sound`.
use borrow.Author.Rules.{rules}
use Rattle.sound.specs.Sound.{is_sound}
use Rattle.sound.proofs.Rooms.{shaped}
use Rattle.sound.proofs.is_sound.Goals as goal

pub returns : goal.returns
unfolding is_sound
returns c = let r = c.args.r in
    let first = shaped r (search rules) (search rules) (search rules) in
    let fits = first (search rules) (search rules) (search rules) (search rules) (search rules) in
    rw (
      c.is_owned.ensures,
      c.is_named.ensures,
      c.is_numbered.ensures,
      c.keeps_rules.ensures,
      fits,
    )
