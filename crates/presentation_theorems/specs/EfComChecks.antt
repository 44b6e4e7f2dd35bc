-- Stage 3, the checks of EF.COM one after the other: document 01, "Stages of a presentation", whose words are those in quotes;
-- `0108` document 02, 2026-04. 11 stands "at the element's tag", and of each element the "encoding before its content". s: the
-- bytes up to the end of EF.COM. No row has "more than fifteen": the rows before it leave none to refuse (`fifteen_tags`;
-- document 02, 2026-09).
use Rattle.std.specs.Prelude.{ℕ, suc, not, ◌||◌, List, [], ◌∷◌, ◌++◌}
use Rattle.refusal.specs.Outcome.{Outcome, unless}
use Rattle.zone.specs.Alphabet.{is_digit, every}
use Rattle.lent.specs.Octets.{alike, stands}
use Rattle.tlv.specs.Cut.{cut, has_octets, end_check}
use Rattle.tlv.specs.Tags.{is_group}
use Rattle.tlv.specs.Tags as Tag
use Rattle.tlv.specs.Places.{stretch_at}
use Rattle.tlv.specs.Versions.{lds17, lds18}
use Rattle.efcom.specs.declared.Common.{Common}
use Rattle.row_theorems.specs.Standing.{coded}

-- "5F01 of length 4, `0107`", or `0108`
unfoldable pub version_checks : List ℕ → ℕ → List Outcome
version_checks s at =
    let v = stretch_at s at Tag.lds_version in
    coded s at Tag.lds_version
    ∷ unless (has_octets 4 v) 11 at
    ∷ unless (alike (cut s v) lds17 || alike (cut s v) lds18) 11 at
    ∷ []

-- where 5F36 stands
unfoldable pub unicode_place : List ℕ → ℕ → ℕ
unicode_place s at = (stretch_at s at Tag.lds_version).to

-- "5F36 of length 6, six digits"
unfoldable pub unicode_checks : List ℕ → ℕ → List Outcome
unicode_checks s at =
    let v = stretch_at s at Tag.unicode_version in
    coded s at Tag.unicode_version ∷ unless (has_octets 6 v) 11 at ∷ unless (every is_digit (cut s v)) 11 at ∷ []

-- where 5C stands
unfoldable pub list_place : List ℕ → ℕ → ℕ
list_place s at = (stretch_at s (unicode_place s at) Tag.unicode_version).to

-- "in the list, first an unknown tag": a row for each tag, "at its octet"
unfoldable pub known_checks : ℕ → List ℕ → List Outcome
known_checks place [] = []
known_checks place (c ∷ t) = unless (is_group c) 11 place ∷ known_checks (suc place) t

-- "then a repeated one": the same, where before are the tags that stood before it
unfoldable pub once_checks : ℕ → (before : List ℕ) → List ℕ → List Outcome
once_checks place before [] = []
once_checks place before (c ∷ t) = unless (not (stands c before)) 11 place ∷ once_checks (suc place) (c ∷ before) t

-- "5C, the tag list"; 10 at "the first octet left over"
unfoldable pub tag_list_checks : List ℕ → ℕ → List Outcome
tag_list_checks s at =
    let v = stretch_at s at Tag.tag_list in
    coded s at Tag.tag_list
    ∷ (known_checks v.from (cut s v) ++ (once_checks v.from [] (cut s v) ++ (end_check s v.to ∷ [])))

-- "In stages 3 and 4 elements go left to right"
unfoldable pub ef_com_checks : List ℕ → ℕ → List Outcome
ef_com_checks s at = version_checks s at ++ (unicode_checks s (unicode_place s at) ++ tag_list_checks s (list_place s at))

-- what EF.COM says: whether not `0107`, where the value of 5F36 stands, and where that of 5C
unfoldable pub common : List ℕ → ℕ → Common
common s at = record {
  newer = not (alike (cut s (stretch_at s at Tag.lds_version)) lds17);
  unicode = stretch_at s (unicode_place s at) Tag.unicode_version;
  tags = stretch_at s (list_place s at) Tag.tag_list;
}
