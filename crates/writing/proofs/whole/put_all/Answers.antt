-- Each call puts its parts.
use Rattle.writing.specs.Inner.Puts.{put_all}
use Rattle.writing.proofs.whole.put_all.Goals as goal

pub returns : goal.returns
unfolding put_all
returns c =
    let early = c in
    let number = early in
    rw (
      c.put_last.ensures,
      c.put_person.ensures,
      early.put_dates.ensures,
      early.put_own.ensures,
      number.put_number.ensures,
      number.put_opening.ensures,
      number.fill.ensures,
    )
