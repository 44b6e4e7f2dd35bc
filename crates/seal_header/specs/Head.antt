-- The octets of a header: document 02, 2026-08, whose words are those in quotes; what they leave to source 002 is that of its
-- table 1.
use Rattle.std.specs.Prelude.{ℕ, cond, List, [], ◌∷◌, ◌++◌, eqb, length}
use Rattle.c40.specs.Image.{image_of}
use Rattle.seal_fields.specs.declared.day.Day.{Day}
use Rattle.seal_fields.specs.Day.{day_octets}
use Rattle.seal_fields.specs.Hex.{hexadecimal}

-- "version octet, issuing country, signer and certificate reference, issue date, signature date"
pub record Head : Type 0 where
  pub version : ℕ
  -- in C40's characters, with a space where the answer has a filler
  pub country : List ℕ
  pub signer : List ℕ
  pub certificate : List ℕ
  pub issued : Day
  pub signed : Day

-- version octet 03 says between signer and certificate reference how many characters the latter has
unfoldable pub count_of : Head → List ℕ
count_of h = cond (eqb h.version 0x02) [] (hexadecimal (length h.certificate))

unfoldable pub reference_of : Head → List ℕ
reference_of h = h.signer ++ (count_of h ++ h.certificate)

-- "octet DC, version octet, issuing country, signer and certificate reference, issue date, signature date, feature definition
-- reference, type category"; for emergency documents "reference 5E, category 03"
unfoldable pub head_octets : Head → List ℕ
head_octets h =
    0xDC ∷ h.version ∷ (image_of h.country ++ (image_of (reference_of h) ++ (day_octets h.issued ++ (day_octets h.signed
    ++ (0x5E ∷ 0x03 ∷ [])))))
