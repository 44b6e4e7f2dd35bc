-- A seal part by part, as it is put into a range: its octets are `seal_octets` where a header is carried and the text is
-- a fit record's (`parts-seal`, proofs/PartsJoined.antt).
use Rattle.std.specs.Prelude.{ℕ, ◌+◌, List, [], ◌∷◌, ◌++◌, length, take}
use Rattle.tlv.specs.Element.{length_octets}
use Rattle.c40.specs.Field.{octets_for}
use Rattle.c40.specs.Inner.Imaged.{reduced, imaged}
use Rattle.seal_fields.specs.declared.day.Day.{Day}
use Rattle.seal_fields.specs.Day.{day_octets}
use Rattle.seal_fields.specs.Hex.{hexadecimal}
use Rattle.seal_header.specs.declared.header.Header.{Header}
use Rattle.seal_features.specs.Features.{signature_tag}

-- before the certificate reference: DC and the version octet, the country, the signer and how long the reference is
unfoldable pub front_part : (version : ℕ) (country signer : List ℕ) (n : ℕ) → List ℕ
front_part version country signer n = (0xDC ∷ version ∷ []) ++ (imaged country ++ imaged (signer ++ hexadecimal n))

-- behind it: the two days, 5E and 03, and of feature 02 its tag and its length
unfoldable pub back_part : (issued signed : Day) → List ℕ
back_part issued signed =
    reduced (day_octets issued) ++ (reduced (day_octets signed) ++ (0x5E ∷ 0x03 ∷ 0x02 ∷ 0x30 ∷ []))

-- FF and a length
unfoldable pub zone_start : ℕ → List ℕ
zone_start n = signature_tag ∷ length_octets n

unfoldable pub zone_part : List ℕ → List ℕ
zone_part g = zone_start (length g) ++ g

-- up to the features' first value
unfoldable pub head_part : Header → List ℕ
head_part h =
    front_part h.version h.country h.signer h.reference_len
    ++ (imaged (take h.reference_len h.reference) ++ back_part h.issued h.signed_on)

-- all of them, around a text
unfoldable pub parts_of : Header → (text signature : List ℕ) → List ℕ
parts_of h t g = head_part h ++ (imaged t ++ zone_part g)

-- how many octets they are, with a reference of n characters
unfoldable pub seal_width : (n : ℕ) (signature : List ℕ) → ℕ
seal_width n g = 66 + octets_for n + length (zone_part g)
