-- A presentation, all stages in number order, and the file of a group: document 01, "Stages of a presentation"; 19 document 02,
-- 2026-04.
use Rattle.outer.specs.declared.File.{File}
use Rattle.std.specs.Prelude.{ℕ, cond, List, [], ◌∷◌, eqb, length, take, get_or}
use Rattle.refusal.specs.Numbers.{by}
use Rattle.zone.specs.declared.record.Record.{Record}
use Rattle.text.specs.Read.{Answer}
use Rattle.tlv.specs.declared.Stretch.{Stretch}
use Rattle.tlv.specs.Read.{Read, value, refusal, and_then, checked}
use Rattle.outer.specs.declared.Outer.{Outer}
use Rattle.tlv.specs.Cut.{cut}
use Rattle.tlv.specs.Tags.{group_of}
use Rattle.tlv.specs.Versions.{Known, both}
use Rattle.outer.specs.Outer.{files, walked}
use Rattle.efcom.specs.EfCom.{read_ef_com}
use Rattle.object.specs.Object.{read_object}
use Rattle.group_text.specs.Text.{text_at, answer_by}
use Rattle.chip.specs.Versions.{versions_check}
use Rattle.chip.specs.Files.{files_check}

-- the first file with that group's tag; where there is none, 14 at the presentation's length
unfoldable pub first_file : List ℕ → ℕ → List File → Read File
first_file w group [] = refusal (by 14) (length w)
first_file w group (f ∷ fs) = cond (eqb (group_of (get_or w f.start 0)) group) (value f) (first_file w group fs)

-- stage 6
unfoldable pub group_one : List ℕ → List File → Read Record
group_one w fs = and_then (first_file w 1 fs) (λ f. text_at (take f.held.to w) f.held.from)

-- stages 3 to 6 of what was walked, by a reader that knows these versions; 19 "after all of stage 4"
unfoldable pub decided : Known → List ℕ → Outer → Read Record
decided known w o =
    and_then (read_ef_com known w o.efcom) (λ c.
    and_then (read_object known w o.object) (λ x.
    checked (versions_check w o.efcom.to c x.version)
    (and_then (files w o.object.to) (λ fs.
    checked (files_check w (cut w c.tags) [] x.entries fs) (group_one w fs)))))

-- stages go in number order
unfoldable pub read_stages : Known → List ℕ → Read Record
read_stages known w = and_then (walked w) (λ o. decided known w o)

unfoldable pub read_presentation : List ℕ → Answer
read_presentation w = answer_by (read_stages both w)

-- the file of a group: the octets from its start to its end, empty where stage 1 or 2 fails, no such file is lent, or the number
-- is no group's
unfoldable pub file_or_none : Read File → Stretch
file_or_none (value f) = record { from = f.start; to = f.held.to }
file_or_none (refusal n p) = record { from = 0; to = 0 }

unfoldable pub group_stretch : List ℕ → ℕ → Stretch
group_stretch w group = file_or_none (and_then (walked w) (λ o. and_then (files w o.object.to) (λ fs. first_file w group fs)))
