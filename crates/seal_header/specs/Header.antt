-- The header of a seal, for emergency documents: document 02, 2026-08, "octet DC, version octet, issuing country, signer and
-- certificate reference, issue date, signature date, feature definition reference, type category" (source 002, table 1).
use Rattle.std.specs.Prelude.{ℕ, ◌+◌, Bool, ◌||◌, List, ◌≡◌, eqb, length, take, drop, get_or, replicate}
use Rattle.refusal.specs.Outcome.{Outcome, or_else, unless, outcome_of}
use Rattle.zone.specs.Alphabet.{filler}
use Rattle.zone.specs.Record.{padded}
use Rattle.zone.specs.Rooms.{state_room}
use Rattle.field.specs.Letters.{state_rule}
use Rattle.c40.specs.Field.{field_at}
use Rattle.seal_fields.specs.declared.day.Day.{Day}
use Rattle.seal_fields.specs.Day.{is_day, day_at}
use Rattle.seal_fields.specs.Spaces.{filled}
use Rattle.seal_header.specs.declared.header.Header.{Header}
use Rattle.seal_header.specs.declared.header.Headed.{Headed}
use Rattle.seal_header.specs.Reference.{version, width, reference, is_reference, before}

-- version octets 02 and 03 are kept
unfoldable pub is_version : ℕ → Bool
is_version v = eqb v 0x02 || eqb v 0x03

-- C40 of three characters; fillers where it is not
unfoldable pub country : List ℕ → List ℕ
country s = padded state_room (filled (field_at s 2 3))

-- the fields up to the reference: 24, at the field
unfoldable pub front_check : List ℕ → (country reference : List ℕ) → Outcome
front_check s country reference =
    or_else (unless (eqb (get_or s 0 0) 0xDC) 24 0)
    (or_else (unless (is_version (version s)) 24 1)
    (or_else (unless (state_rule country) 24 2)
    (unless (is_reference reference) 24 4)))

-- the fields behind it, which stand where its width v puts them
unfoldable pub back_check : List ℕ → (v : ℕ) → (issued signed : Day) → Outcome
back_check s v issued signed =
    or_else (unless (is_day issued) 24 (4 + v))
    (or_else (unless (is_day signed) 24 (7 + v))
    (or_else (unless (eqb (get_or s (10 + v) 0) 0x5E) 24 (10 + v))
    (unless (eqb (get_or s (11 + v) 0) 0x03) 24 (11 + v))))

-- the first field from the left that is wrong, or that the end cuts off or leaves out
unfoldable pub check_by : List ℕ → (reference : List ℕ) → (v : ℕ) → Outcome
check_by s reference v = or_else (front_check s (country s) reference) (back_check s v (day_at s (4 + v)) (day_at s (7 + v)))

unfoldable pub header_check : List ℕ → Outcome
header_check s = check_by s (reference s) (width s)

-- what is handed out of it: the signer's four characters, and those of the certificate reference
unfoldable pub header_by : List ℕ → (country reference : List ℕ) → (v : ℕ) → (issued signed : Day) → Header
header_by s country reference v issued signed = record {
  version = version s;
  country = country;
  signer = padded 4 (take 4 reference);
  reference = padded 255 (drop (before s) reference);
  reference_len = length (drop (before s) reference);
  issued = issued;
  signed_on = signed;
  definition = get_or s (10 + v) 0;
  category = get_or s (11 + v) 0;
}

unfoldable pub said_by : List ℕ → (reference : List ℕ) → (v : ℕ) → Header
said_by s reference v = header_by s (country s) reference v (day_at s (4 + v)) (day_at s (7 + v))

unfoldable pub header_of : List ℕ → Header
header_of s = said_by s (reference s) (width s)

-- the features stand behind it
unfoldable pub header_end : List ℕ → ℕ
header_end s = 12 + width s

-- the header that every refusal gives: numbers 0, characters fillers, length 0
unfoldable pub blank_header : Header
blank_header = record {
  version = 0;
  country = replicate state_room filler;
  signer = replicate 4 filler;
  reference = replicate 255 filler;
  reference_len = 0;
  issued = record { year = 0; month = 0; day = 0 };
  signed_on = record { year = 0; month = 0; day = 0 };
  definition = 0;
  category = 0;
}

-- the whole promise of reading a header whose reference has these characters in v octets, and of reading any
pub record HeadsBy (s reference : List ℕ) (v : ℕ) (r : Headed) : Type 0 where
  pub decided : outcome_of r.verdict ≡ check_by s reference v
  pub said : r.header ≡ said_by s reference v
  pub ends : r.end ≡ 12 + v

abbrev pub Heads : List ℕ → Headed → Type 0
Heads s r = HeadsBy s (reference s) (width s) r
