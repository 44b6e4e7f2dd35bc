-- What a sound seal of an emergency document is: the joined encodings of a header, features and a signature, said with encoders
-- and without the reader. The words in quotes are those of document 02, request 2026-08; what they leave to source 002 is that of
-- its table 1.
use Rattle.std.specs.Prelude.{ℕ, ◌+◌, ◌-◌, ◌≤◌, ◌≡◌, ◌⊎◌, Bool, true, cond, not}
use Rattle.std.specs.Prelude.{◌&&◌, List, [], ◌∷◌, ◌++◌, map, eqb, ltb, length, take, drop}
use Rattle.refusal.specs.Outcome.{passed}
use Rattle.zone.specs.declared.form.Source.TheVariants.{Seal}
use Rattle.zone.specs.Form.{may_stand}
use Rattle.zone.specs.declared.form.Form.{Form}
use Rattle.zone.specs.Alphabet.{is_letter, every}
use Rattle.zone.specs.Record.{padded}
use Rattle.field.specs.Letters.{state_rule}
use Rattle.text.specs.Read.{read_text}
use Rattle.tlv.specs.declared.Stretch.{Stretch}
use Rattle.tlv.specs.Element.{tlv}
use Rattle.c40.specs.Values.{is_c40}
use Rattle.c40.specs.Image.{image_of}
use Rattle.seal_fields.specs.Day.{is_day, day_octets}
use Rattle.seal_fields.specs.Hex.{is_hex, hexadecimal}
use Rattle.seal_fields.specs.Spaces.{filled}
use Rattle.seal_header.specs.declared.header.Header.{Header}
use Rattle.seal_header.specs.Reference.{is_letter_or_digit}
use Rattle.seal_header.specs.Head.{Head}
use Rattle.seal_features.specs.Features.{text_tag, signature_tag}
use Rattle.seal.specs.Seal.{SealAnswer}
use Rattle.text_theorems.specs.Accepted.{Keeps}

-- ---- what a seal holds

-- "features of tag, length and value"
pub record Feature : Type 0 where
  pub tag : ℕ
  pub content : List ℕ

-- all of it
pub record Contents : Type 0 where
  pub head : Head
  -- the features before feature 02, its text, and the features behind it
  pub before : List Feature
  pub text : List ℕ
  pub behind : List Feature
  -- "then FF, a length and the signature"
  pub signature : List ℕ

-- ---- its octets

-- version octet 03 says between signer and certificate reference how many characters the latter has
unfoldable pub count_of : Head → List ℕ
count_of h = cond (eqb h.version 0x02) [] (hexadecimal (length h.certificate))

unfoldable pub reference_of : Head → List ℕ
reference_of h = h.signer ++ (count_of h ++ h.certificate)

-- "octet DC, version octet, issuing country, signer and certificate reference, issue date, signature date, feature definition
-- reference, type category"; for emergency documents "reference 5E, category 03"
unfoldable pub head_octets : Head → List ℕ
head_octets h =
    0xDC ∷ h.version ∷ (image_of h.country ++ (image_of (reference_of h) ++ (day_octets h.issued ++ (day_octets h.signed
    ++ (0x5E ∷ 0x03 ∷ [])))))

unfoldable pub feature_of : Feature → List ℕ
feature_of f = tlv f.tag f.content

unfoldable pub joined : List Feature → List ℕ
joined [] = []
joined (f ∷ fs) = feature_of f ++ joined fs

-- "feature 02" has the text's image for its value
unfoldable pub octets_of : Contents → List ℕ
octets_of p =
    head_octets p.head
    ++ (joined p.before ++ (tlv text_tag (image_of p.text) ++ (joined p.behind ++ tlv signature_tag p.signature)))

-- ---- what is asked of it

-- "Unknown features are passed over": a tag of one octet that is neither 02 nor FF
unfoldable pub is_other : ℕ → Bool
is_other tag = ltb tag 256 && (not (eqb tag text_tag) && not (eqb tag signature_tag))

unfoldable pub are_others : List Feature → Bool
are_others fs = every is_other (map (λ (f : Feature). f.tag) fs)

-- the signer and the certificate reference, as the version has them
pub record ReferenceKept (h : Head) : Type 0 where
  -- two letters, and two letters or digits
  pub signer_length : length h.signer ≡ 4
  pub signer_letters : every is_letter (take 2 h.signer) ≡ true
  pub signer_others : every is_letter_or_digit (drop 2 h.signer) ≡ true
  -- of 0-9 and A-F: five, or as many as two hexadecimal characters say
  pub certificate_hex : every is_hex h.certificate ≡ true
  pub certificate_five : h.version ≡ 0x02 → length h.certificate ≡ 5
  pub certificate_most : h.version ≡ 0x03 → length h.certificate ≤ 255

pub record HeadKept (h : Head) : Type 0 where
  -- "Version octets 02 and 03 are kept"
  pub version_kept : (h.version ≡ 0x02) ⊎ (h.version ≡ 0x03)
  -- three characters that keep document 01's rule for a state, spaces standing for fillers
  pub country_length : length h.country ≡ 3
  pub country_c40 : every is_c40 h.country ≡ true
  pub country_kept : state_rule (filled h.country) ≡ true
  pub reference_kept : ReferenceKept h
  -- "a calendar day of the years 1 to 9999"
  pub issued_kept : is_day h.issued ≡ true
  pub signed_kept : is_day h.signed ≡ true

-- every rule but those of the text
pub record Shaped (p : Contents) : Type 0 where
  -- not "over 65,535 octets"
  pub size : length (octets_of p) ≤ 65535
  pub head_kept : HeadKept p.head
  -- not "feature 02 .. a second time", nor FF before the end
  pub before_others : are_others p.before ≡ true
  pub behind_others : are_others p.behind ≡ true
  -- "72 characters" of C40
  pub text_length : length p.text ≡ 72
  pub text_c40 : every is_c40 p.text ≡ true

pub record Sealed (p : Contents) : Type 0 where
  pub shaped : Shaped p
  -- "spaces become fillers", and the text keeps every rule
  pub text_kept : (f : Form) × (may_stand Seal f ≡ true) × Keeps f (filled p.text)

-- ---- what is answered of it

-- "the feature's first octet"
unfoldable pub feature_place : Contents → ℕ
feature_place p = length (head_octets p.head) + length (joined p.before)

unfoldable pub header_in : Head → Header
header_in h = record {
  version = h.version;
  country = filled h.country;
  signer = h.signer;
  reference = padded 255 h.certificate;
  reference_len = length h.certificate;
  issued = h.issued;
  signed_on = h.signed;
  definition = 0x5E;
  category = 0x03;
}

-- from its own start to the seal's end
unfoldable pub signature_in : Contents → Stretch
signature_in p = record { from = length (octets_of p) - length p.signature; to = length (octets_of p) }

-- "header fields, record and signature"
unfoldable pub answer_in : Contents → SealAnswer
answer_in p = record {
  outcome = passed;
  header = header_in p.head;
  kept = (read_text Seal (filled p.text)).kept;
  signature = signature_in p;
}
