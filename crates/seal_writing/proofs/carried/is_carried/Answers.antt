-- Each field has the places that its type gives; the other tests are those of `is_carried`.
use borrow.Author.Rules.{rules}
use Rattle.seal_writing.specs.Carried.{is_carried}
use Rattle.seal_writing.proofs.Shapes.{shaped}
use Rattle.seal_writing.proofs.carried.is_carried.Goals as goal

pub returns : goal.returns
unfolding is_carried
returns c = let h = c.args.h in
    let fits = shaped h (search rules) (search rules) (search rules) (search rules) in
    rw (
      c.is_emergency.ensures,
      c.is_day-2.ensures,
      c.is_day.ensures,
      c.is_referred-referred.ensures,
      c.is_signer.ensures,
      c.is_state.ensures,
      fits,
    )
