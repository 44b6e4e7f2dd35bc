-- The text of a record: document 01, "The text", and document 02, request 2026-06. Each part in its place, with fillers behind
-- what it is given; the composite digit comes last, since it covers all the rest.
use Rattle.std.specs.Prelude.{ℕ, Bool, cond, List, [], ◌∷◌, ◌++◌, ltb, take, drop}
use Rattle.zone.specs.Part.{Part, number, number_check, optional, birth_check, expiry_check, optional2, composite, name, personal}
use Rattle.zone.specs.Part.{personal_check, own, same}
use Rattle.zone.specs.Rows.{PartRow, ◌is◌, in_rows}
use Rattle.zone.specs.Alphabet.{filler}
use Rattle.zone.specs.Rooms.{date_room, nine, further}
use Rattle.zone.specs.Form.{Cell, ◌of◌, layout, covered, own_part}
use Rattle.zone.specs.Record.{padded, held}
use Rattle.zone.specs.declared.record.Record.{Record}
use Rattle.digit.specs.Check.{digit_of}

-- the complete number, and its characters from the tenth on
unfoldable pub number_in : Record → List ℕ
number_in r = take r.number_len r.number

abbrev pub further_of : List ℕ → List ℕ
further_of s = take further (drop nine s)

unfoldable pub further_in : Record → List ℕ
further_in r = further_of (number_in r)

-- over nine characters
unfoldable pub is_wide : Record → Bool
is_wide r = ltb nine r.number_len

-- a number of up to nine characters has its check digit at the check place, a long one `<`, and in the optional field its further
-- characters, its check digit and a filler
unfoldable pub at_check : Record → ℕ
at_check r = cond (is_wide r) filler (digit_of (take nine r.number))

unfoldable pub in_optional : Record → List ℕ
in_optional r = cond (is_wide r) (further_in r ++ (digit_of (number_in r) ∷ filler ∷ [])) []

-- the issuer's own data, in their part alone
unfoldable pub own_at : Record → Part → List ℕ
own_at r x = cond (same (own_part r.form) x) (held r own) []

-- what each part is given, but for the composite: number and name as they stand in the record, with the fillers behind them,
-- check digits, and the issuer's own data where they stand, behind what a long number takes; "TD3's personal check is written
-- over it, 0 when it is empty"; every other part what the record holds of it
unfoldable pub given_rows : Record → List (PartRow (List ℕ))
given_rows r =
    number is r.number
    ∷ name is r.name
    ∷ number_check is (at_check r ∷ [])
    ∷ optional is (in_optional r ++ own_at r optional)
    ∷ optional2 is own_at r optional2
    ∷ personal is own_at r personal
    ∷ own is []
    ∷ birth_check is (digit_of (take date_room r.birth) ∷ [])
    ∷ expiry_check is (digit_of (take date_room r.expiry) ∷ [])
    ∷ personal_check is (digit_of (held r own) ∷ [])
    ∷ []

abbrev pub given : Record → Part → List ℕ
given r x = in_rows (held r x) (given_rows r) x

-- the parts in their order
unfoldable pub in_place : (Part → List ℕ) → List Cell → List ℕ
in_place g [] = []
in_place g (x of w ∷ cells) = padded w (g x) ++ in_place g cells

-- the text but for the composite digit, and that digit
unfoldable pub before_last : Record → List ℕ
before_last r = in_place (given r) (layout r.form)

unfoldable pub last_digit : Record → ℕ
last_digit r = digit_of (covered r.form (before_last r))

abbrev pub given_all : Record → Part → List ℕ
given_all r x = in_rows (held r x) (composite is (last_digit r ∷ []) ∷ given_rows r) x

unfoldable pub text_of : Record → List ℕ
text_of r = in_place (given_all r) (layout r.form)
