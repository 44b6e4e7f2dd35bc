-- The signer and the certificate reference: source 002, table 1; document 02, 2026-08, "Version octets 02 and 03 are kept, laid
-- out as in source 002 and Doc 9303-13". 02: nine characters. 03: six, of which the last two say in hexadecimal how many more
-- follow.
use Rattle.std.specs.Prelude.{ℕ, ◌+◌, ◌*◌, Bool, cond, ◌&&◌, ◌||◌, List, eqb, drop, get_or}
use Rattle.zone.specs.Alphabet.{is_digit, is_letter, every}
use Rattle.c40.specs.Field.{octets_for, field_at}
use Rattle.seal_fields.specs.Hex.{is_hex, hex_of}

-- the version octet stands at 1, the reference at 4
unfoldable pub version : List ℕ → ℕ
version s = get_or s 1 0

-- how many more the six characters say
unfoldable pub more_by : List ℕ → ℕ
more_by six = hex_of (get_or six 4 0) * 16 + hex_of (get_or six 5 0)

-- all characters of the field
unfoldable pub reference_length : List ℕ → ℕ
reference_length s = cond (eqb (version s) 0x02) 9 (6 + more_by (field_at s 4 6))

-- v: its octets
unfoldable pub width : List ℕ → ℕ
width s = octets_for (reference_length s)

-- the characters; none where they are not as many as the version, or the six, say
unfoldable pub reference : List ℕ → List ℕ
reference s = field_at s 4 (reference_length s)

unfoldable pub is_letter_or_digit : ℕ → Bool
is_letter_or_digit c = is_letter c || is_digit c

-- two letters, two letters or digits, then 0-9 and A-F only: the five, or the two that say how many follow, and these
unfoldable pub is_reference : List ℕ → Bool
is_reference t =
    (is_letter (get_or t 0 0) && is_letter (get_or t 1 0))
    && ((is_letter_or_digit (get_or t 2 0) && is_letter_or_digit (get_or t 3 0)) && every is_hex (drop 4 t))

-- the characters before the certificate reference: the signer's four, and in 03 the two that say how many follow
unfoldable pub before : List ℕ → ℕ
before s = cond (eqb (version s) 0x02) 4 6
