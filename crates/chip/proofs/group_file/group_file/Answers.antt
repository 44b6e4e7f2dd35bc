-- The stretch, cut out.
use Rattle.chip.proofs.group_file.group_file.Goals as goal

pub returns : goal.returns
returns c = rw (c.cut.ensures, c.group_stretch-stretch.ensures)
