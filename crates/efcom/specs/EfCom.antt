-- Stage 3, EF.COM: 5F01 of length 4, `0107` or (document 02, 2026-04) `0108`; 5F36 of length 6, six digits; 5C, the tag list. 11
-- at the element's tag.
use Rattle.std.specs.Prelude.{ℕ, suc, Bool, cond, not, ◌&&◌, ◌||◌, List, [], ◌∷◌, take}
use Rattle.refusal.specs.Numbers.{by}
use Rattle.refusal.specs.Outcome.{Outcome, passed, refused, unless, or_else}
use Rattle.zone.specs.Alphabet.{is_digit, every}
use Rattle.tlv.specs.declared.Stretch.{Stretch}
use Rattle.tlv.specs.Read.{Read, value, and_then, checked}
use Rattle.tlv.specs.Element.{element}
use Rattle.tlv.specs.Cut.{cut, has_octets, end_check}
use Rattle.lent.specs.Octets.{alike, stands}
use Rattle.tlv.specs.Tags.{is_group}
use Rattle.tlv.specs.Tags as Tag
use Rattle.tlv.specs.Versions.{Known, former, both, lds17, lds18}
use Rattle.efcom.specs.declared.Common.{Common}

-- in the list, first an unknown tag, at its octet
unfoldable pub known_from : ℕ → List ℕ → Outcome
known_from place [] = passed
known_from place (c ∷ t) = cond (is_group c) (known_from (suc place) t) (refused (by 11) place)

-- then a repeated one, at its octet
unfoldable pub once_from : ℕ → List ℕ → List ℕ → Outcome
once_from place before [] = passed
once_from place before (c ∷ t) = cond (stands c before) (refused (by 11) place) (once_from (suc place) (c ∷ before) t)

-- both; more than fifteen are never left to refuse (`fifteen_tags`)
unfoldable pub tags_check : List ℕ → Stretch → Outcome
tags_check s v = or_else (known_from v.from (cut s v)) (once_from v.from [] (cut s v))

unfoldable pub from_tag_list : List ℕ → ℕ → Read Stretch
from_tag_list s at = and_then (element s at Tag.tag_list) (λ v. checked (tags_check s v) (checked (end_check s v.to) (value v)))

-- six digits
unfoldable pub is_unicode : List ℕ → Stretch → Bool
is_unicode s v = has_octets 6 v && every is_digit (cut s v)

-- what EF.COM says: whether the newer version, where the digits stand, and where the list
unfoldable pub from_unicode : (newer : Bool) → List ℕ → ℕ → Read Common
from_unicode newer s at =
    and_then (element s at Tag.unicode_version) (λ v.
    checked (unless (is_unicode s v) 11 at)
    (and_then (from_tag_list s v.to) (λ tags. value (record { newer = newer; unicode = v; tags = tags }))))

-- `0107`, and where it is known `0108`
unfoldable pub is_version : Known → List ℕ → Stretch → Bool
is_version former s v = has_octets 4 v && alike (cut s v) lds17
is_version both s v = has_octets 4 v && (alike (cut s v) lds17 || alike (cut s v) lds18)

unfoldable pub from_version : Known → List ℕ → ℕ → Read Common
from_version known s at =
    and_then (element s at Tag.lds_version) (λ v.
    checked (unless (is_version known s v) 11 at) (from_unicode (not (alike (cut s v) lds17)) s v.to))

-- the EF.COM whose value stands here
unfoldable pub read_ef_com : Known → List ℕ → Stretch → Read Common
read_ef_com known w efcom = from_version known (take efcom.to w) efcom.from
