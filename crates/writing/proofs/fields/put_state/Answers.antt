-- The array is as long as its place.
use borrow.Author.Rules.{rules}
use lib.Seq.{take_all}
use Rattle.writing.proofs.fields.put_state.Goals as goal

pub returns : goal.returns
returns c =
    rw (take_all 3 c.args.s (search rules))
    c.copy_at.ensures
