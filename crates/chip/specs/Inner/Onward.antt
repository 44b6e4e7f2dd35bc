-- No words of the paper: what is left to do from one step of the code on.
use Rattle.std.specs.Prelude.{ℕ, List, []}
use Rattle.zone.specs.declared.record.Record.{Record}
use Rattle.tlv.specs.declared.Stretch.{Stretch}
use Rattle.tlv.specs.Read.{Read, and_then, checked}
use Rattle.tlv.specs.Cut.{cut}
use Rattle.tlv.specs.Versions.{both}
use Rattle.efcom.specs.declared.Common.{Common}
use Rattle.object.specs.Object.{read_object}
use Rattle.outer.specs.Outer.{files}
use Rattle.outer.specs.declared.Outer.{Outer}
use Rattle.chip.specs.Versions.{versions_check}
use Rattle.chip.specs.Files.{files_check}
use Rattle.chip.specs.Presentation.{group_one}
use Rattle.chip.specs.Inner.ByTable.{lent_from, files_by}

-- stages 5 and 6, by the table of digests
abbrev pub with_digests : List ℕ → ℕ → Stretch → List ℕ → Read Record
with_digests w start tags digests =
    checked (files_by w (cut w tags) digests (lent_from w start)) (group_one w (lent_from w start))

-- stages 4 to 6
abbrev pub with_common : List ℕ → Outer → Common → Read Record
with_common w o c =
    and_then (read_object both w o.object) (λ x.
    checked (versions_check w o.efcom.to c x.version)
    (and_then (files w o.object.to) (λ fs. checked (files_check w (cut w c.tags) [] x.entries fs) (group_one w fs))))
