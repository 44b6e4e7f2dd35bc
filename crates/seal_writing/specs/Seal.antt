-- Writing a seal: document 02, 2026-13, "header fields, a sound TD2 record and a signature go in; the seal's octets in version 03
-- come out". "Refusals: 17 for an unsound or non-TD2 record, 28 for a header field that version 03 cannot carry or a signature
-- that would take the seal over 65,535 octets, 16 for a short output, in that order, each at place 0."
use Rattle.std.specs.Prelude.{Result}
use Rattle.refusal.specs.declared.Refusal.{Refusal}
use Rattle.std.specs.Prelude.{ℕ, ◌≡◌, Bool, true, false, ◌&&◌, List, ◌++◌, leb, length, take}
use Rattle.refusal.specs.Outcome.{Outcome, or_else, unless}
use Rattle.refusal.specs.Length.{Length, length_of}
use Rattle.refusal.specs.Output.{write_answer, write_out}
use Rattle.zone.specs.declared.form.Form.{Form}
use Rattle.zone.specs.declared.form.Form.TheVariants.{Td1, Td2, Td3, MrvA, MrvB}
use Rattle.zone.specs.declared.record.Record.{Record}
use Rattle.sound.specs.Sound.{is_sound}
use Rattle.writing.specs.Text.{text_of}
use Rattle.tlv.specs.Element.{tlv}
use Rattle.c40.specs.Image.{image_of}
use Rattle.seal_fields.specs.Spaces.{spaced}
use Rattle.seal_header.specs.declared.header.Header.{Header}
use Rattle.seal_header.specs.Head.{Head, head_octets}
use Rattle.seal_features.specs.Features.{text_tag, signature_tag}
use Rattle.seal_writing.specs.Carried.{is_carried}

-- ---- its octets

-- what stands in a seal of a header's fields, in C40's characters
unfoldable pub head_of : Header → Head
head_of h = record {
  version = h.version;
  country = spaced h.country;
  signer = h.signer;
  certificate = take h.reference_len h.reference;
  issued = h.issued;
  signed = h.signed_on;
}

-- what is signed: the header, and of the features 02 alone, with the record's text
unfoldable pub signed_octets : Header → Record → List ℕ
signed_octets h r = head_octets (head_of h) ++ tlv text_tag (image_of (spaced (text_of r)))

-- "then FF, a length and the signature" (2026-08)
unfoldable pub seal_octets : Header → Record → (signature : List ℕ) → List ℕ
seal_octets h r g = signed_octets h r ++ tlv signature_tag g

-- ---- what is asked, answered and left

unfoldable pub is_td2 : Form → Bool
is_td2 Td1 = false
is_td2 Td2 = true
is_td2 Td3 = false
is_td2 MrvA = false
is_td2 MrvB = false

unfoldable pub is_fit : Record → Bool
is_fit r = is_td2 r.form && is_sound r

-- 17, then 28
unfoldable pub seal_check : Header → Record → (signature : List ℕ) → Outcome
seal_check h r g =
    or_else (unless (is_fit r) 17 0) (unless (is_carried h && leb (length (seal_octets h r g)) 65535) 28 0)

-- then 16; else how many octets the seal has
unfoldable pub seal_answer : Header → Record → (signature out : List ℕ) → Length
seal_answer h r g out = write_answer (seal_check h r g) (length (seal_octets h r g)) out

-- a refusal changes no octet, a success those of the seal and no others
unfoldable pub seal_out : Header → Record → (signature out : List ℕ) → List ℕ
seal_out h r g out = write_out (seal_check h r g) (length (seal_octets h r g)) (seal_octets h r g) out

-- the whole promise: the answer, and what the output holds afterwards
pub record WritesSeal (h : Header) (r : Record) (signature out after : List ℕ) (w : Result ℕ Refusal) : Type 0 where
  pub answer : length_of w ≡ seal_answer h r signature out
  pub output : after ≡ seal_out h r signature out
