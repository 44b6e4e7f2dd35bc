-- What the walk counted.
use Rattle.std.proofs.lemmas.Result.{err_from_is_err_and}
use Rattle.nightly.proofs.Seeing.{seen_counted, refused_counted}
use Rattle.nightly.proofs.look_over.Goals as goal

pub returns : goal.returns
returns c = seen_counted c.args.list.now 0 c.in_ok-seen.seen c.in_ok-seen.ensures

pub returns-in_err-seen : goal.returns-in_err-seen
returns-in_err-seen c =
    let p = err_from_is_err_and c.from_residual.result c.from_residual.ensures.1 in
    rw (p.1, p.2) (refused_counted c.args.list.now 0 _ _ c.in_err-seen.ensures)
