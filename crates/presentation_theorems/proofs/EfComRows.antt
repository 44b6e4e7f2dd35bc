-- Stage 3 as rows: reading EF.COM is its checks, before what it says.
use Prim.Native.Nat.{ℕ, suc}
use mathlib.Core.Path.{◌≡◌, refl, ap, ◌∙◌}
use mathlib.Core.Bool.{Bool, not, ◌||◌}
use mathlib.Core.List.{List, [], ◌∷◌, ◌++◌}
use Rattle.refusal.specs.Outcome.{or_else, unless}
use Rattle.zone.specs.Alphabet.{is_digit, every}
use Rattle.lent.specs.Octets.{alike, stands}
use Rattle.tlv.specs.declared.Stretch.{Stretch}
use Rattle.tlv.specs.Read.{Read, value, and_then, checked}
use Rattle.tlv.specs.Cut.{cut, has_octets, end_check}
use Rattle.tlv.specs.Tags.{is_group}
use Rattle.tlv.specs.Tags as Tag
use Rattle.tlv.specs.Versions.{both, lds17, lds18}
use Rattle.efcom.specs.declared.Common.{Common}
use Rattle.efcom.specs.EfCom.{known_from, once_from, tags_check, from_tag_list}
use Rattle.efcom.specs.EfCom.{is_unicode, from_unicode, is_version, from_version}
use Rattle.text_theorems.proofs.FirstOf.{first_of}
use Rattle.tlv.specs.Places.{stretch_at}
use Rattle.row_theorems.specs.Standing.{coded}
use Rattle.presentation_theorems.specs.EfComChecks.{version_checks, unicode_place, unicode_checks, list_place, known_checks}
use Rattle.presentation_theorems.specs.EfComChecks.{once_checks, tag_list_checks, ef_com_checks, common}
use Rattle.row_theorems.proofs.Rows.{under, keep, first_then, checked_else, goes_on, stops}
use Rattle.row_theorems.proofs.Rows.{step_known, element_then, element_of_two}

-- ---- the tags of the list, a row for each

known_rows : (place : ℕ) (l : List ℕ) → known_from place l ≡ first_of (known_checks place l)
unfolding known_from known_checks first_of
known_rows place [] = refl
known_rows place (c ∷ l) =
    goes_on (is_group c) 11 place (known_from (suc place) l)
    ∙ ap (or_else (unless (is_group c) 11 place)) (known_rows (suc place) l)

once_rows : (place : ℕ) (before l : List ℕ) → once_from place before l ≡ first_of (once_checks place before l)
unfolding once_from once_checks first_of
once_rows place before [] = refl
once_rows place before (c ∷ l) =
    stops (stands c before) 11 place (once_from (suc place) (c ∷ before) l)
    ∙ ap (or_else (unless (not (stands c before)) 11 place)) (once_rows (suc place) (c ∷ before) l)

-- ---- the elements

tag_list_rows : (s : List ℕ) (at : ℕ) → from_tag_list s at ≡ under (tag_list_checks s at) (value (stretch_at s at Tag.tag_list))
unfolding from_tag_list tags_check tag_list_checks under
tag_list_rows s at =
    let v = stretch_at s at Tag.tag_list in
    let l = cut s v in
    let end = checked (end_check s v.to) (value v) in
    let known = known_from v.from l in
    let once = once_from v.from [] l in
    let once-checks = once_checks v.from [] l ++ (end_check s v.to ∷ []) in
    element_then s at Tag.tag_list _
    ∙ keep (coded s at Tag.tag_list) (checked_else known once end
    ∙ first_then known (known_checks v.from l) once-checks (checked once end) (value v) (known_rows v.from l)
    (first_then once (once_checks v.from [] l) (end_check s v.to ∷ []) end (value v) (once_rows v.from [] l) refl))

unicode_rows : (newer : Bool) (s : List ℕ) (at : ℕ) → from_unicode newer s at
    ≡ under (unicode_checks s at ++ tag_list_checks s (stretch_at s at Tag.unicode_version).to)
    (value (record {
      newer = newer;
      unicode = stretch_at s at Tag.unicode_version;
      tags = stretch_at s (stretch_at s at Tag.unicode_version).to Tag.tag_list;
    }))
unfolding from_unicode is_unicode unicode_checks
unicode_rows newer s at =
    let u = stretch_at s at Tag.unicode_version in
    let go : Stretch → Stretch → Read Common = λ v tags. value (record { newer = newer; unicode = v; tags = tags }) in
    element_of_two s at Tag.unicode_version (has_octets 6) (λ v. every is_digit (cut s v)) 11
    (λ v. and_then (from_tag_list s v.to) (go v)) _ _
    (step_known (tag_list_checks s u.to) (from_tag_list s u.to) (stretch_at s u.to Tag.tag_list) (go u)
    (tag_list_rows s u.to))

pub efcom_rows : (s : List ℕ) (at : ℕ) → from_version both s at ≡ under (ef_com_checks s at) (value (common s at))
unfolding from_version is_version ef_com_checks version_checks unicode_place list_place common
efcom_rows s at =
    element_of_two s at Tag.lds_version (has_octets 4) (λ v. alike (cut s v) lds17 || alike (cut s v) lds18) 11
    (λ v. from_unicode (not (alike (cut s v) lds17)) s v.to) _ _
    (unicode_rows (not (alike (cut s (stretch_at s at Tag.lds_version)) lds17)) s (stretch_at s at Tag.lds_version).to)
