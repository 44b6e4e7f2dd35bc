-- Request 2026-04: the reader as it was, and what document 02 calls a "`0107`" presentation, said of its octets. The reader of
-- before is today's with `former` for `both`: it knows `0107` and object version 0 alone, and so has no 19.
use Rattle.std.specs.Prelude.{ℕ, List, [], take, get_or}
use Rattle.zone.specs.declared.record.Record.{Record}
use Rattle.text.specs.Read.{Answer}
use Rattle.tlv.specs.Read.{Read, and_then, checked}
use Rattle.tlv.specs.Cut.{cut}
use Rattle.tlv.specs.Tags as Tag
use Rattle.tlv.specs.Versions.{former}
use Rattle.efcom.specs.EfCom.{read_ef_com}
use Rattle.object.specs.Object.{read_object}
use Rattle.outer.specs.declared.Outer.{Outer}
use Rattle.outer.specs.Outer.{files, walked}
use Rattle.chip.specs.Files.{files_check}
use Rattle.group_text.specs.Text.{answer_by}
use Rattle.chip.specs.Presentation.{group_one}
use Rattle.tlv.specs.Places.{stretch_at}
use Rattle.presentation_theorems.specs.PresentationChecks.{ef_com, object}

-- stages 3 to 6, as they were
unfoldable pub decided_formerly : List ℕ → Outer → Read Record
decided_formerly w o =
    and_then (read_ef_com former w o.efcom) (λ c.
    and_then (read_object former w o.object) (λ x.
    and_then (files w o.object.to) (λ fs.
    checked (files_check w (cut w c.tags) [] x.entries fs) (group_one w fs))))

unfoldable pub read_formerly : List ℕ → Answer
read_formerly w = answer_by (and_then (walked w) (decided_formerly w))

-- what EF.COM says in 5F01
unfoldable pub lds_version : List ℕ → List ℕ
lds_version w = let s = take (ef_com w).to w in cut s (stretch_at s (ef_com w).from Tag.lds_version)

-- the octet of the object's version
unfoldable pub object_version : List ℕ → ℕ
object_version w = let s = take (object w).to w in get_or s (stretch_at s (object w).from Tag.integer).from 0
