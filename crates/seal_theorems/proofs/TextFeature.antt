-- Feature 02: its value is the image of 72 characters exactly where these are read.
use Prim.Native.Nat.{ℕ}
use mathlib.Core.Path.{◌≡◌, ap, sym, ◌∙◌}
use mathlib.Core.Bool.{true}
use mathlib.Core.List.{List, ◌∷◌, ◌++◌}
use native.Mathlib.Omega.{arith}
use lib.ListN.{length, take, drop}
use lib.Seq.{take_at, take_all}
use Rattle.zone.specs.Alphabet.{every}
use Rattle.zone.specs.Octets.{is_octet, AreOctets}
use Rattle.zone.proofs.Every.{every_take, every_drop}
use Rattle.tlv.specs.Element.{tag_octets, length_octets, tlv}
use Rattle.c40.specs.Values.{is_c40}
use Rattle.c40.specs.Image.{image_of}
use Rattle.c40.specs.Field.{octets_for, is_field}
use Rattle.c40.proofs.Fields.{field_read, read_field}
use Rattle.seal_features.specs.declared.features.Features.{Features}
use Rattle.seal_features.specs.Features.{text_tag}
use Rattle.seal.specs.Seal as seal
use Rattle.seal.specs.Seal.{text_in}

-- 48 octets have a tag and a length of one octet each
text_octets : (c : List ℕ) → length c ≡ 48 → tlv text_tag c ≡ 0x02 ∷ 0x30 ∷ c
unfolding tlv tag_octets length_octets
text_octets c n = rw n

-- what stands at a feature 02
feature_there : (s : List ℕ) (f : Features) (c r : List ℕ) → length c ≡ 48 → drop f.text s ≡ tlv text_tag c ++ r
    → seal.feature_octets s f ≡ 0x02 ∷ 0x30 ∷ c
unfolding seal.feature_octets
feature_there s f c r n e =
    ap (take 50) (e ∙ ap (λ (l : List ℕ). l ++ r) (text_octets c n)) ∙ take_at (0x02 ∷ 0x30 ∷ c) r 50 (omega arith)

module _ (s : List ℕ) (f : Features) (c r : List ℕ) (n : length c ≡ 48) (e : drop f.text s ≡ tlv text_tag c ++ r) where
  inside : take (octets_for 72) (drop 2 (seal.feature_octets s f)) ≡ c
  unfolding octets_for
  inside = ap (λ (l : List ℕ). take 48 (drop 2 l)) (feature_there s f c r n e) ∙ take_all 48 c (omega arith)

  pub image_inside : AreOctets s → is_field (seal.feature_octets s f) 2 72 ≡ true
      → (length (text_in s f) ≡ 72) × (every is_c40 (text_in s f) ≡ true) × (c ≡ image_of (text_in s f))
  unfolding text_in seal.feature_octets
  image_inside small k =
      let q = seal.feature_octets s f in
      let h = field_read q 2 72 (every_take is_octet 50 (drop f.text s) (every_drop is_octet f.text s small)) k in
      (h.field_length, h.field_c40, sym inside ∙ h.field_image)

  pub inside_image : (t : List ℕ) → length t ≡ 72 → every is_c40 t ≡ true → c ≡ image_of t
      → (is_field (seal.feature_octets s f) 2 72 ≡ true) × (text_in s f ≡ t)
  unfolding text_in
  inside_image t l p i =
      read_field (seal.feature_octets s f) 2 72 t (record { field_length = l; field_c40 = p; field_image = inside ∙ i })
