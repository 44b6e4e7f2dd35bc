-- The array is as long as its place.
use borrow.Author.Rules.{rules}
use lib.Seq.{take_all}
use Rattle.writing.proofs.fields.put_date.Goals as goal

pub returns : goal.returns
returns c =
    rw (
      take_all 6 c.args.s
          (search rules),
      c.put.ensures,
      c.of-d.ensures,
      c.copy_at.ensures,
    )
