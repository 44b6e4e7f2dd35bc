-- The examples of document 02, request 2026-08, and of source 002 as one table: a text and its image (source 002, 3.3.1; annex C,
-- tables 14 and 15), a day and its octets (3.3.1; the two dates of section 8).
use Rattle.std.specs.Prelude.{ℕ, Bool, true, false, ◌&&◌, List, [], ◌∷◌, eqb}
use Prim.Native.String.{String}
use Rattle.lent.specs.Octets.{alike, octets}
use Rattle.c40.specs.Image.{image_of}
use Rattle.c40.specs.Reader.{Reading, characters, no_image, read_c40}
use Rattle.seal_fields.specs.declared.day.Day.{Day}
use Rattle.seal_fields.specs.Day.{is_day, day_of, number_in}
use Rattle.seal_fields.specs.Day.{day_octets}

pub data Example : Type 0 where
  image : String → List ℕ → Example
  date : (day month year : ℕ) → List ℕ → Example

unfoldable pub is_text : List ℕ → Reading → Bool
is_text t (characters u) = alike t u
is_text t no_image = false

unfoldable pub same_day : Day → Day → Bool
same_day d e = eqb d.year e.year && (eqb d.month e.month && eqb d.day e.day)

-- a day has these octets, and they are read as the day
unfoldable pub is_date : Day → List ℕ → Bool
is_date d s = is_day d && (alike (day_octets d) s && same_day d (day_of (number_in s)))

-- a text has this image, and it is read as the text
unfoldable pub is_right : Example → Bool
is_right (image t s) = alike (image_of (octets t)) s && is_text (octets t) (read_c40 s)
is_right (date day month year s) = is_date (record { year = year; month = month; day = day }) s

unfoldable pub printed : List Example
printed =
    image "XKCD" (0xEB ∷ 0x11 ∷ 0xFE ∷ 0x45 ∷ [])
    ∷ image "XK CD" (0xEB ∷ 0x04 ∷ 0x66 ∷ 0xA9 ∷ [])
    ∷ image "VISA01" (0xDE ∷ 0x51 ∷ 0x58 ∷ 0x26 ∷ [])
    ∷ date 25 3 1957 (0x31 ∷ 0x9E ∷ 0xF5 ∷ [])
    ∷ date 8 8 2016 (0x7B ∷ 0x52 ∷ 0x60 ∷ [])
    ∷ date 9 8 2007 (0x7B ∷ 0x79 ∷ 0x67 ∷ [])
    ∷ []

unfoldable pub all_printed : List Example → Bool
all_printed [] = true
all_printed (e ∷ es) = is_right e && all_printed es
