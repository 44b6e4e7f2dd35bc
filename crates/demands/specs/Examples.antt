-- The starred examples of document 01, "Examples", as one table: each row is an example, and `is_right` says what it claims.
use Rattle.std.specs.Prelude.{ℕ, ◌+◌, Bool, true, false, not, ◌&&◌, List, [], ◌∷◌, ◌++◌, eqb, length, take, get_or, replicate}
use Prim.Native.Char.{code}
use Prim.Native.String.{String}
use Rattle.zone.specs.declared.form.Source.TheVariants.{Alone}
use Rattle.zone.specs.declared.form.Form.TheVariants.{Td3}
use Rattle.zone.specs.Part.{Part, number, number_check, birth, birth_check, expiry, expiry_check, composite}
use Rattle.zone.specs.Form.{start, field, covered}
use Rattle.digit.specs.Check.{check_of}
use Rattle.field.specs.Date.{birth_rule}
use Rattle.text.specs.Read.{read_text}
use Rattle.entry.specs.Entry.{entry_of}
use Rattle.tlv.specs.declared.Stretch.{Stretch}
use Rattle.refusal.specs.Numbers.{number_of}
use Rattle.refusal.specs.Outcome.{Outcome, passed, refused}
use Rattle.tlv.specs.Read.{Read, value, refusal}
use Rattle.tlv.specs.Element.{element}
use Rattle.tlv.specs.Tags.{octet_string}
use Rattle.lent.specs.Octets.{alike, octets}

pub data Example : Type 0 where
  -- a field has this check
  check : String → ℕ → Example
  -- a birth is kept, or refused
  birth_kept birth_refused : String → Example
  -- an element whose length is told so, before so many octets, is read, or is refused with 10
  length_read length_refused : List ℕ → ℕ → Example
  -- a text is accepted, and with this house the entry of its record has so many bytes, and begins with these
  entry : String → (house n : ℕ) → List ℕ → Example
  -- the four check digits of a TD3 text besides the personal one: number, birth, expiry, composite
  digits : String → (n b e c : ℕ) → Example

-- a digit of a TD3 text is the one worked out, and stands in its place
unfoldable pub is_digit_at : List ℕ → Part → List ℕ → ℕ → Bool
is_digit_at t x covers n = eqb (check_of covers) n && eqb (get_or t (start Td3 x) 0) (code "0" + n)

-- whether an element is read, or refused with a number
unfoldable pub is_read : Read Stretch → Bool
is_read (value v) = true
is_read (refusal n p) = false

unfoldable pub is_refused : ℕ → Read Stretch → Bool
is_refused n (value v) = false
is_refused n (refusal why p) = eqb (number_of why) n

-- an octet string with this length, and so many octets
unfoldable pub told : List ℕ → ℕ → Read Stretch
told l n = element (octet_string ∷ (l ++ replicate n 0)) 0 octet_string

-- whether a reader passed
unfoldable pub is_passed : Outcome → Bool
is_passed passed = true
is_passed (refused why p) = false

unfoldable pub is_right : Example → Bool
is_right (check s n) = eqb (check_of (octets s)) n
is_right (birth_kept s) = birth_rule (octets s)
is_right (birth_refused s) = not (birth_rule (octets s))
is_right (digits s n b e c) =
    is_digit_at (octets s) number_check (field Td3 number (octets s)) n
    && (is_digit_at (octets s) birth_check (field Td3 birth (octets s)) b
    && (is_digit_at (octets s) expiry_check (field Td3 expiry (octets s)) e && is_digit_at (octets s) composite
    (covered Td3 (octets s)) c))
is_right (length_read l n) = is_read (told l n)
is_right (length_refused l n) = is_refused 10 (told l n)
is_right (entry s house n front) =
    is_passed (read_text Alone (octets s)).outcome
    && (eqb (length (entry_of house (read_text Alone (octets s)).kept)) n
    && alike (take (length front) (entry_of house (read_text Alone (octets s)).kept)) front)

-- `P<UTONORD<<ELIN`, fillers to 44, then the second line
unfoldable pub T3 : String
T3 = "P<UTONORD<<ELIN<<<<<<<<<<<<<<<<<<<<<<<<<<<<<K7<<<<<<<1UTO9001158F3006302<<<<<<<<<<<<<<00"

unfoldable pub examples : List Example
examples =
    check "520727" 3
    ∷ check "AB2134<<<" 5
    ∷ check "D23145890734" 9
    ∷ check "" 0
    ∷ birth_refused "900230"
    ∷ birth_kept "960229"
    ∷ birth_kept "95<<31"
    ∷ birth_refused "950229"
    ∷ digits T3 1 8 2 0
    ∷ entry T3 1 43 (0x00 ∷ 0x02 ∷ 0x9F ∷ 0x79 ∷ 0x95 ∷ 0x48 ∷ [])
    ∷ length_read (0x7F ∷ []) 0x7F
    ∷ length_refused (0x81 ∷ 0x7F ∷ []) 0x7F
    ∷ length_read (0x81 ∷ 0x80 ∷ []) 0x80
    ∷ []

unfoldable pub all_right : List Example → Bool
all_right [] = true
all_right (e ∷ es) = is_right e && all_right es
