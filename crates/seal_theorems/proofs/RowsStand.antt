-- THE ROWS of a seal's checks that decode, C40 or a day, each by what stands there: it passes exactly where the encoding of what
-- it asks for does (`country_row` and the others).
use Prim.Native.Nat.{ℕ, ◌+◌}
use mathlib.Core.Path.{◌≡◌, refl, ap, sym, ◌∙◌}
use mathlib.Core.Logic.{◌↔◌}
use mathlib.Core.Bool.{true, false≢true}
use mathlib.Core.List.{List, [], ◌∷◌}
use native.Mathlib.Omega.{arith}
use lib.ListN.{length, take, drop}
use lib.Seq.{drop-drop, take-take}
use Rattle.zone.specs.Alphabet.{every}
use Rattle.zone.specs.Octets.{is_octet, AreOctets}
use Rattle.zone.specs.Record.{padded}
use Rattle.zone.proofs.Every.{every_take, every_drop}
use Rattle.zone.proofs.Padded.{padded_exact}
use Rattle.field.specs.Letters.{state_rule}
use Rattle.c40.specs.Values.{is_c40}
use Rattle.c40.specs.Image.{image_of}
use Rattle.c40.specs.Reader.{Reading, characters, no_image, read_c40}
use Rattle.c40.specs.Field.{octets_for, image_at, is_field, field_at}
use Rattle.c40.proofs.Images.{image_read, reads_exactly, image_length}
use Rattle.c40.proofs.Fields.{FieldStands, field_read, read_field}
use Rattle.seal_fields.specs.declared.day.Day.{Day}
use Rattle.seal_fields.specs.Day.{is_day, day_at, day_of, number_in}
use Rattle.seal_fields.specs.Spaces.{filled}
use Rattle.seal_fields.proofs.Filled.{length-filled}
use Rattle.seal_header.specs.Reference.{version, reference_length, width, reference, is_reference}
use Rattle.seal_header.specs.Header.{is_version, country}
use Rattle.seal_features.specs.declared.features.Features.{Features}
use Rattle.seal.specs.Seal.{feature_octets, text_in}
use Rattle.seal_fields.specs.Day.{three_octets, day_octets}
use Rattle.seal_header.specs.Head.{Head}
use Rattle.seal_theorems.specs.Sealed.{reference_of}
use Rattle.seal_theorems.specs.SealChecks.{is_image}
use Rattle.seal_theorems.specs.RowsStand.{StandsAt, CountryStands, ReferenceStands, DayStands, ImageStands, TextStands}
use Rattle.seal_theorems.proofs.Places.{there_then}
use Rattle.seal_fields.proofs.Days.{day_read, read_day}
use Rattle.seal_theorems.proofs.References.{ReferenceRead, reference_stands, referred, read_reference}
use Rattle.seal_theorems.proofs.HeadChecks.{version_told}
use Rattle.seal_theorems.proofs.HeadThere.{country_field, head_at}

-- ---- images

module _ (s : List ℕ) (at m : ℕ) (t : List ℕ) where
  image_wide : length t ≡ m → length (image_of t) ≡ octets_for m
  unfolding octets_for
  image_wide e = image_length t ∙ ap octets_for e

  field_stands : FieldStands s at m t → StandsAt s at (image_of t)
  field_stands w = ap (λ (n : ℕ). take n (drop at s)) (image_wide w.field_length) ∙ w.field_image

  stands_field : length t ≡ m → every is_c40 t ≡ true → StandsAt s at (image_of t) → FieldStands s at m t
  stands_field wide c40 there = record {
    field_length = wide;
    field_c40 = c40;
    field_image = ap (λ (n : ℕ). take n (drop at s)) (sym (image_wide wide)) ∙ there;
  }

-- ---- the header

module _ (s : List ℕ) (small : AreOctets s) where
  -- that of 24 at 2: an image of three characters that keep a state's rule
  pub country_row : (state_rule (country s) ≡ true) ↔ ((t : List ℕ) × CountryStands s t)
  unfolding country
  country_row = (
    λ e.
        let t = field_at s 2 3 in
        let w = field_read s 2 3 small (country_field s e) in (
          t,
          record {
            country_three = w.field_length;
            country_characters = w.field_c40;
            country_rule = ap state_rule (sym (padded_exact 3 (filled t) (length-filled t ∙ w.field_length))) ∙ e;
            country_there = field_stands s 2 3 t w;
          },
        ),
    λ c.
        let t = c.0 in
        let k = c.1 in
        let read = (read_field s 2 3 t (stands_field s 2 3 t k.country_three k.country_characters k.country_there)).1 in
        ap (λ (l : List ℕ). state_rule (padded 3 (filled l))) read
        ∙ (ap state_rule (padded_exact 3 (filled t) (length-filled t ∙ k.country_three)) ∙ k.country_rule),
  )

  -- that of 24 at 4: an image of a signer and a certificate reference, as the version has them
  module _ (kept : is_version (version s) ≡ true) where
    reference_read_there : (h : Head) → ReferenceStands s h → ReferenceRead h s
    reference_read_there h k =
        let x = image_of (reference_of h) in
        let v = version_told (version s) kept in
        read_reference s (drop (4 + length x) s) h k.reference_rules (sym k.reference_version)
        (there_then s 4 (length x) x k.reference_there)
        (rw k.reference_version v)

    pub reference_row : (is_reference (reference s) ≡ true) ↔ ((h : Head) × ReferenceStands s h)
    unfolding head_at
    reference_row = (
      λ e.
          let h = head_at s small in
          let r = referred s small e h refl refl refl (version_told (version s) kept) in
          let there = field_stands s 4 (reference_length s) (reference s) (reference_stands s small e) in (
            h,
            record {
              reference_version = refl;
              reference_rules = r.referred_kept;
              reference_there = rw r.said_so there;
            },
          ),
      λ c.
          let r = reference_read_there c.0 c.1 in
          ap is_reference r.reference_read ∙ r.reference_kept,
    )

    -- and the fields behind it stand behind that image
    pub reference_width : (h : Head) → ReferenceStands s h → width s ≡ length (image_of (reference_of h))
    reference_width h k = (reference_read_there h k).width_read

  -- that of 24 at a date's place: a day's three octets
  pub day_row : (at : ℕ) → (is_day (day_at s at) ≡ true) ↔ ((d : Day) × DayStands s at d)
  unfolding day_at day_octets three_octets
  day_row at = (
    λ e.
        let l = take 3 (drop at s) in
        let octets = every_take is_octet 3 (drop at s) (every_drop is_octet at s small) in
        (day_at s at, record { day_rule = e; day_there = sym (read_day l octets e) }),
    λ c.
        let k = c.1 in
        ap (λ (l : List ℕ). is_day (day_of (number_in l))) k.day_there
        ∙ (ap is_day (day_read c.0 k.day_rule) ∙ k.day_rule),
  )

-- ---- feature 02

-- the 48 octets of a feature at a place
behind_two : (l : List ℕ) → take 48 (drop 2 (take 50 l)) ≡ take 48 (drop 2 l)
behind_two [] = refl
behind_two (x ∷ []) = refl
behind_two (x ∷ y ∷ l) = take-take 48 48 l (omega arith)

module _ (s : List ℕ) (f : Features) where
  feature_octets_lem : take (octets_for 72) (drop 2 (feature_octets s f)) ≡ take 48 (drop (f.text + 2) s)
  unfolding octets_for feature_octets
  feature_octets_lem = behind_two (drop f.text s) ∙ ap (take 48) (drop-drop 2 f.text s)

  text_stands : (t : List ℕ) → FieldStands (feature_octets s f) 2 72 t → TextStands s f.text t
  text_stands t w = record {
    text_characters = w.field_length;
    text_image = record { image_characters = w.field_c40; image_there = sym feature_octets_lem ∙ w.field_image };
  }

  stands_text : (t : List ℕ) → TextStands s f.text t → FieldStands (feature_octets s f) 2 72 t
  stands_text t k = record {
    field_length = k.text_characters;
    field_c40 = k.text_image.image_characters;
    field_image = feature_octets_lem ∙ k.text_image.image_there;
  }

  -- where a text's image stands, that text is read
  pub text_there : (t : List ℕ) → TextStands s f.text t → text_in s f ≡ t
  unfolding text_in
  text_there t k = (read_field (feature_octets s f) 2 72 t (stands_text t k)).1

  module _ (small : AreOctets s) where
    feature_small : AreOctets (feature_octets s f)
    unfolding feature_octets
    feature_small = every_take is_octet 50 (drop f.text s) (every_drop is_octet f.text s small)

    -- the first of 26: a text's image in feature 02
    pub image_row : (is_image (image_at (feature_octets s f) 2 72) ≡ true) ↔ ((t : List ℕ) × ImageStands s f.text t)
    unfolding image_at is_image
    image_row = (
      λ e. there (image_at q 2 72) refl e,
      λ c. rw (ap read_c40 (feature_octets_lem ∙ c.1.image_there) ∙ image_read c.0 c.1.image_characters),
    )
      where
        q : List ℕ
        q = feature_octets s f

        there : (r : Reading) → image_at q 2 72 ≡ r → is_image r ≡ true → (t : List ℕ) × ImageStands s f.text t
        there (characters t) p e =
            let l = take (octets_for 72) (drop 2 q) in
            let octets = every_take is_octet (octets_for 72) (drop 2 q) (every_drop is_octet 2 q feature_small) in
            let w = (reads_exactly l t octets).0 p in
            (t, record { image_characters = w.0; image_there = sym feature_octets_lem ∙ sym w.1 })
        there no_image p e = absurd (false≢true e)

    -- and the second: an image of 72 characters
    pub text_row : (is_field (feature_octets s f) 2 72 ≡ true) ↔ ((t : List ℕ) × TextStands s f.text t)
    text_row = (
      λ e. let q = feature_octets s f in (field_at q 2 72, text_stands (field_at q 2 72) (field_read q 2 72 feature_small e)),
      λ c. (read_field (feature_octets s f) 2 72 c.0 (stands_text c.0 c.1)).0,
    )
