-- What the walk saw of the house.
use Rattle.nightly.proofs.Seeing.{seen_own, refused_own}
use Rattle.nightly.proofs.house_stretch.Goals as goal

pub returns-in-Ok : goal.returns-in-Ok
returns-in-Ok c = seen_own c.args.list.now c.args.house c.in-Ok.seen c.in-Ok.ensures

pub returns-in-Err : goal.returns-in-Err
returns-in-Err c = refused_own c.args.list.now c.args.house _ _ c.in-Err.ensures
