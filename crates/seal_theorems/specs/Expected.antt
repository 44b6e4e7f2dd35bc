-- The digit that a seal's refusal 9 carries is that of the text in its feature 02: document 02, 2026-07, "every refusal 9 shall
-- carry that digit up"; 2026-08, "then those of the text, at the feature's first octet".
use Rattle.std.specs.Prelude.{ℕ, ◌≡◌, not, List, eqb, leb, length}
use Rattle.zone.specs.declared.form.Source.TheVariants.{Seal}
use Rattle.refusal.specs.Numbers.{expecting}
use Rattle.refusal.specs.Outcome.{refused, unless}
use Rattle.text.specs.Read.{read_text}
use Rattle.tlv.specs.declared.Stretch.{Stretch}
use Rattle.tlv.specs.Read.{Read, value, and_then, checked}
use Rattle.c40.specs.Field.{is_field}
use Rattle.seal_fields.specs.Spaces.{filled}
use Rattle.seal_header.specs.Header.{header_check, header_end}
use Rattle.seal_features.specs.declared.features.Features.{Features}
use Rattle.seal_features.specs.Features.{features}
use Rattle.seal_features.specs.Signature.{signature_at}
use Rattle.seal.specs.Seal.{feature_octets, text_in}
use Rattle.seal_theorems.specs.Sealed.{Contents, octets_of, Shaped, feature_place}

-- what stands behind the header: the features, and the signature
pub record Zones : Type 0 where
  pub message : Features
  pub signature : Stretch

-- where they stand, once all that goes before the text's own checks is in order
unfoldable pub zones_in : List ℕ → Read Zones
zones_in s =
    checked (unless (leb (length s) 65535) 1 0)
    (checked (header_check s)
    (and_then (features s (header_end s)) (λ f.
    checked (unless (not (eqb f.text 0)) 25 f.end)
    (checked (unless (is_field (feature_octets s f) 2 72) 26 f.text)
    (and_then (signature_at s f.end) (λ v. value (record { message = f; signature = v })))))))

-- the seal's text, in the feature 02 that stands at this place, is refused by 9 with this digit
pub record FromFeature (s : List ℕ) (d place : ℕ) : Type 0 where
  pub zones : Zones
  pub stand : zones_in s ≡ value zones
  pub own : ℕ
  pub text_refused : (read_text Seal (filled (text_in s zones.message))).outcome ≡ refused (expecting d) own
  pub there : place ≡ zones.message.text

-- the same without the reader of seals: these are the octets of contents that keep every rule but those of the text, which is
-- refused by 9 with this digit
pub record FromContents (s : List ℕ) (d place : ℕ) : Type 0 where
  pub contents : Contents
  pub octets_so : s ≡ octets_of contents
  pub shaped : Shaped contents
  pub own : ℕ
  pub text_refused : (read_text Seal (filled contents.text)).outcome ≡ refused (expecting d) own
  pub there : place ≡ feature_place contents
