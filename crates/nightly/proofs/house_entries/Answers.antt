-- The stretch, cut out.
use Rattle.nightly.proofs.house_entries.Goals as goal

pub returns : goal.returns
returns c = rw (c.cut.ensures, c.house_stretch-stretch.ensures)
