-- The checks of a seal one after the other, a row for each sentence that can refuse: document 02, request 2026-08, "Refusals, in
-- this order", whose words are those in quotes. Which of them a refusal names is `FirstFailing` (text_theorems). Every row is
-- said of the octets; where one fails, those behind it decide nothing. The rows of country, reference, dates and feature 02's C40
-- decode what stands there: `RowsStand` says of each, with encoders, what that is.
use Rattle.std.specs.Prelude.{ℕ, zero, suc, ◌+◌, Bool, true, false, cond, not}
use Rattle.std.specs.Prelude.{◌||◌, List, [], ◌∷◌, ◌++◌, map, eqb, leb, length, get_or}
use Rattle.zone.specs.declared.form.Source.TheVariants.{Seal}
use Rattle.refusal.specs.Outcome.{Outcome, unless}
use Rattle.field.specs.Letters.{state_rule}
use Rattle.tlv.specs.declared.Stretch.{Stretch}
use Rattle.tlv.specs.Cut.{has_octets}
use Rattle.c40.specs.Reader.{Reading, characters, no_image}
use Rattle.c40.specs.Field.{image_at, is_field}
use Rattle.seal_fields.specs.Day.{is_day, day_at}
use Rattle.seal_fields.specs.Spaces.{filled}
use Rattle.seal_header.specs.Reference.{version, width, reference, is_reference}
use Rattle.seal_header.specs.Header.{is_version, country, header_end}
use Rattle.seal_features.specs.declared.features.Features.{Features}
use Rattle.seal_features.specs.Features.{text_tag, signature_tag, is_end, text_place}
use Rattle.seal.specs.Seal.{feature_octets, text_in, placed}
use Rattle.text_theorems.specs.Ordered.{checks_of}
use Rattle.tlv.specs.Places.{stretch_at}
use Rattle.row_theorems.specs.Standing.{is_coded}

-- "24, a header field, its C40 or another reference or category, at the field": DC, version, country, reference, the two dates,
-- definition reference, category
unfoldable pub header_checks : List ℕ → List Outcome
header_checks s =
    unless (eqb (get_or s 0 0) 0xDC) 24 0
    ∷ unless (is_version (version s)) 24 1
    ∷ unless (state_rule (country s)) 24 2
    ∷ unless (is_reference (reference s)) 24 4
    ∷ unless (is_day (day_at s (4 + width s))) 24 (4 + width s)
    ∷ unless (is_day (day_at s (7 + width s))) 24 (7 + width s)
    ∷ unless (eqb (get_or s (10 + width s) 0) 0x5E) 24 (10 + width s)
    ∷ unless (eqb (get_or s (11 + width s) 0) 0x03) 24 (11 + width s)
    ∷ []

-- ---- features

-- where the value of the feature at a place stands, as its length says
unfoldable pub feature_value : List ℕ → ℕ → Stretch
feature_value s at = stretch_at s at (get_or s at 0)

-- the places of features from a place on, each where the one before ends, up to FF or the end; here at most so many
unfoldable pub places_from : ℕ → List ℕ → ℕ → List ℕ
places_from zero s at = []
places_from (suc more) s at = cond (is_end s at) [] (at ∷ places_from more s (feature_value s at).to)

-- and where the last of them ends
unfoldable pub end_from : ℕ → List ℕ → ℕ → ℕ
end_from zero s at = at
end_from (suc more) s at = cond (is_end s at) at (end_from more s (feature_value s at).to)

-- the place of the feature 02 among these, or the one that was known before: 0 where none is
unfoldable pub text_among : List ℕ → (text : ℕ) → List ℕ → ℕ
text_among s text [] = text
text_among s text (at ∷ ps) = text_among s (text_place s at text) ps

-- "25, a feature wrongly coded or cut off, or feature 02 of another length or a second time, at it"; text: the place of the
-- feature 02 that stood before, 0 where none did
unfoldable pub feature_checks : List ℕ → (text at : ℕ) → List Outcome
feature_checks s text at =
    unless (is_coded s at (get_or s at 0)) 25 at
    ∷ unless (not (eqb (get_or s at 0) text_tag) || has_octets 48 (feature_value s at)) 25 at
    ∷ unless (not (eqb (get_or s at 0) text_tag) || eqb text 0) 25 at
    ∷ []

unfoldable pub features_checks : List ℕ → (text : ℕ) → List ℕ → List Outcome
features_checks s text [] = []
features_checks s text (at ∷ ps) = feature_checks s text at ++ features_checks s (text_place s at text) ps

-- ---- behind the features

-- "27, signature zone missing, wrongly coded, cut off or followed by anything, at FF or the end"
unfoldable pub signature_checks : List ℕ → ℕ → List Outcome
signature_checks s at =
    unless (is_coded s at signature_tag) 27 at ∷ unless (eqb (stretch_at s at signature_tag).to (length s)) 27 at ∷ []

-- octets that are the C40 of some text
unfoldable pub is_image : Reading → Bool
is_image (characters t) = true
is_image no_image = false

-- 25, "absent, at FF or, without one, the end; 26, the C40 of feature 02 bad or not 72 characters, at the feature"; the signature
-- zone; "then those of the text, at the feature's first octet"
unfoldable pub checks_behind : List ℕ → Features → List Outcome
checks_behind s f =
    unless (not (eqb f.text 0)) 25 f.end
    ∷ unless (is_image (image_at (feature_octets s f) 2 72)) 26 f.text
    ∷ unless (is_field (feature_octets s f) 2 72) 26 f.text
    ∷ (signature_checks s f.end ++ map (placed f.text) (checks_of Seal (filled (text_in s f))))

-- ---- all of them

-- what is found of the features from a place on
unfoldable pub features_found : List ℕ → ℕ → Features
features_found s at = record { text = text_among s 0 (places_from (suc (length s)) s at); end = end_from (suc (length s)) s at }

-- "1, over 65,535 octets, at 0"; the header; the features from the left, and what is behind them. Nothing that is rightly coded
-- is empty, so that there are no more features than octets.
unfoldable pub seal_checks : List ℕ → List Outcome
seal_checks s =
    let at = header_end s in
    unless (leb (length s) 65535) 1 0
    ∷ (header_checks s
    ++ (features_checks s 0 (places_from (suc (length s)) s at) ++ checks_behind s (features_found s at)))
