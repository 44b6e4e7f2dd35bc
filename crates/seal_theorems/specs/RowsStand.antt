-- What stands in a seal where a row of `seal_checks` passes that decodes, said with encoders and without a reader. The words in
-- quotes are those of document 02, request 2026-08; what they leave to source 002 is that of its table 1.
use Rattle.std.specs.Prelude.{ℕ, ◌+◌, ◌≡◌, true, List, length, take, drop}
use Rattle.zone.specs.Alphabet.{every}
use Rattle.field.specs.Letters.{state_rule}
use Rattle.c40.specs.Values.{is_c40}
use Rattle.c40.specs.Image.{image_of}
use Rattle.seal_fields.specs.declared.day.Day.{Day}
use Rattle.seal_fields.specs.Day.{is_day}
use Rattle.seal_fields.specs.Spaces.{filled}
use Rattle.seal_header.specs.Reference.{version}
use Rattle.seal_fields.specs.Day.{day_octets}
use Rattle.seal_header.specs.Head.{Head}
use Rattle.seal_theorems.specs.Sealed.{reference_of, ReferenceKept}

-- these octets stand at a place
abbrev pub StandsAt : List ℕ → (at : ℕ) → List ℕ → Type 0
StandsAt s at octets = take (length octets) (drop at s) ≡ octets

-- "issuing country": at 2 the image of three characters that keep the rule of a state, spaces standing for fillers
pub record CountryStands (s t : List ℕ) : Type 0 where
  pub country_three : length t ≡ 3
  pub country_characters : every is_c40 t ≡ true
  pub country_rule : state_rule (filled t) ≡ true
  pub country_there : StandsAt s 2 (image_of t)

-- "signer and certificate reference": at 4 their image, as the seal's version octet has them laid out. No other field of the head
-- is spoken of.
pub record ReferenceStands (s : List ℕ) (h : Head) : Type 0 where
  pub reference_version : h.version ≡ version s
  pub reference_rules : ReferenceKept h
  pub reference_there : StandsAt s 4 (image_of (reference_of h))

-- "issue date, signature date": a calendar day's three octets
pub record DayStands (s : List ℕ) (at : ℕ) (d : Day) : Type 0 where
  pub day_rule : is_day d ≡ true
  pub day_there : StandsAt s at (day_octets d)

-- behind tag and length of the feature 02 at a place, its 48 octets are the image of a text in C40
pub record ImageStands (s : List ℕ) (at : ℕ) (t : List ℕ) : Type 0 where
  pub image_characters : every is_c40 t ≡ true
  pub image_there : take 48 (drop (at + 2) s) ≡ image_of t

-- and one of "72 characters"
pub record TextStands (s : List ℕ) (at : ℕ) (t : List ℕ) : Type 0 where
  pub text_characters : length t ≡ 72
  pub text_image : ImageStands s at t
