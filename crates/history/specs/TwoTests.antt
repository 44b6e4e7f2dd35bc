-- Request 2026-09: today's reader with this one thing otherwise: the two tests that the request struck are put back, each where
-- document 01 has it. What is named `now` is today's; the steps that lead to a test are written out, since it stands within them.
use Rattle.std.specs.Prelude.{ℕ, not, List, [], eqb, leb, length, take, get_or}
use Rattle.refusal.specs.Outcome.{Outcome, unless, or_else}
use Rattle.text.specs.Read.{Answer}
use Rattle.tlv.specs.declared.Stretch.{Stretch}
use Rattle.tlv.specs.Read.{Read, value, and_then, checked}
use Rattle.tlv.specs.Element.{element}
use Rattle.tlv.specs.Cut.{cut, end_check}
use Rattle.tlv.specs.Tags as Tag
use Rattle.tlv.specs.Versions.{both, lds17}
use Rattle.lent.specs.Octets.{alike}
use Rattle.efcom.specs.declared.Common.{Common}
use Rattle.efcom.specs.EfCom.{is_version, is_unicode}
use Rattle.efcom.specs.EfCom as now
use Rattle.object.specs.Object.{GroupHash, Said, is_sha256, entries, version_at}
use Rattle.object.specs.Object as now-object
use Rattle.outer.specs.Outer.{files, walked}
use Rattle.chip.specs.Versions.{versions_check}
use Rattle.chip.specs.Files.{files_check}
use Rattle.group_text.specs.Text.{answer_by}
use Rattle.chip.specs.Presentation.{group_one}

-- "first an unknown tag, then a repeated one (each at its octet), then more than fifteen (at 5C)"
unfoldable pub tags_check : List ℕ → Stretch → ℕ → Outcome
tags_check s v at = or_else (now.tags_check s v) (unless (leb (length (cut s v)) 15) 11 at)

-- "a repeated number (12 at its integer), then fewer than 2, then more than 16 (12 at the list)"
unfoldable pub entries_check : List GroupHash → ℕ → Outcome
entries_check es at = or_else (now-object.entries_check es at) (unless (leb (length es) 16) 12 at)

-- stage 3
unfoldable pub read_ef_com : List ℕ → Stretch → Read Common
read_ef_com w efcom =
    let s = take efcom.to w in
    and_then (element s efcom.from Tag.lds_version) (λ version.
    checked (unless (is_version both s version) 11 efcom.from)
    (and_then (element s version.to Tag.unicode_version) (λ unicode.
    checked (unless (is_unicode s unicode) 11 version.to)
    (and_then (and_then (element s unicode.to Tag.tag_list)
    (λ tags. checked (tags_check s tags unicode.to) (checked (end_check s tags.to) (value tags))))
    (λ tags. value (record { newer = not (alike (cut s version) lds17); unicode = unicode; tags = tags }))))))

-- stage 4
unfoldable pub read_object : List ℕ → Stretch → Read Said
read_object w object =
    let s = take object.to w in
    and_then (element s object.from Tag.integer) (λ version.
    checked (unless (now-object.is_version both s version) 12 object.from)
    (and_then (element s version.to Tag.sequence) (λ algorithm.
    checked (unless (is_sha256 (cut s algorithm)) 13 version.to)
    (and_then (element s algorithm.to Tag.sequence) (λ list.
    and_then (entries (take list.to s) list.from) (λ es.
    checked (entries_check es algorithm.to)
    (and_then (version_at (eqb (get_or s version.from 0) 1) s list.to)
    (λ x. value (record { entries = es; version = x })))))))))

-- all stages. (The file of a group goes by stages 1 and 2 alone.)
unfoldable pub read_presentation : List ℕ → Answer
read_presentation w =
    answer_by (and_then (walked w) (λ o.
    and_then (read_ef_com w o.efcom) (λ c.
    and_then (read_object w o.object) (λ x.
    checked (versions_check w o.efcom.to c x.version)
    (and_then (files w o.object.to) (λ fs.
    checked (files_check w (cut w c.tags) [] x.entries fs) (group_one w fs)))))))
