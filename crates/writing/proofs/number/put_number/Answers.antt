-- A number over nine characters is the long one.
use borrow.Author.Tests.{le-ltb, lt-ltb}
use Rattle.writing.specs.Text.{is_wide}
use Rattle.writing.specs.Inner.Puts.{put_number}
use Rattle.writing.proofs.number.put_number.Goals as goal

pub returns-then-r-gt-NINE : goal.returns-then-r-gt-NINE
unfolding put_number is_wide
returns-then-r-gt-NINE c = rw (c.put_long.ensures, lt-ltb _ _ c.if-r-gt-NINE.true)

pub returns-else-r-gt-NINE : goal.returns-else-r-gt-NINE
unfolding put_number is_wide
returns-else-r-gt-NINE c = rw (c.put_short.ensures, le-ltb _ _ c.if-r-gt-NINE.false)
