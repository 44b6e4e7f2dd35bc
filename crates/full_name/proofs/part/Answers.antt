-- The stretch, cut from the one that holds it.
use Rattle.full_name.specs.FullName.{part_of, full_name_part}
use Rattle.full_name.proofs.part.Goals as goal

pub returns-in-File : goal.returns-in-File
unfolding full_name_part part_of
returns-in-File c = rw (← c.find-name.ensures, c.in-File.is) c.cut.ensures

pub returns-in-Text : goal.returns-in-Text
unfolding full_name_part part_of
returns-in-Text c = rw (← c.find-name.ensures, c.in-Text.is) c.cut-in-Text.ensures

pub returns-in-Nowhere : goal.returns-in-Nowhere
unfolding full_name_part part_of
returns-in-Nowhere c = rw (← c.find-name.ensures, c.in-Nowhere.is) c.part.ensures
