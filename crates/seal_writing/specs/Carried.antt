-- Which headers version 03 carries: document 02, 2026-13, "28 for a header field that version 03 cannot carry". A header goes
-- in as the reader hands it out (2026-08); whatever it would not hand out again cannot be carried, or two headers would give one
-- seal.
use Rattle.std.specs.Prelude.{ℕ, ◌≤◌, ◌≡◌, Bool, true, ◌&&◌, List, eqb, leb, length, take, drop, get_or}
use Rattle.zone.specs.Alphabet.{is_letter, is_filler, every}
use Rattle.zone.specs.Rooms.{state_room}
use Rattle.field.specs.Letters.{state_rule}
use Rattle.seal_fields.specs.Day.{is_day}
use Rattle.seal_fields.specs.Hex.{is_hex}
use Rattle.seal_header.specs.declared.header.Header.{Header}
use Rattle.seal_header.specs.Reference.{is_letter_or_digit}

-- each field has as many places as the header has for it; in the code its types say so
unfoldable pub is_shaped : Header → Bool
is_shaped h =
    eqb (length h.country) state_room
    && (eqb (length h.signer) 4 && (eqb (length h.reference) 255 && leb h.reference_len 255))

-- version octet 03, and of an emergency document "reference 5E, category 03" (2026-08)
unfoldable pub is_emergency : Header → Bool
is_emergency h = eqb h.version 0x03 && (eqb h.definition 0x5E && eqb h.category 0x03)

-- two letters, and two letters or digits (source 002, table 1)
unfoldable pub is_signer : List ℕ → Bool
is_signer t =
    (is_letter (get_or t 0 0) && is_letter (get_or t 1 0))
    && (is_letter_or_digit (get_or t 2 0) && is_letter_or_digit (get_or t 3 0))

-- n characters of 0-9 and A-F, and fillers in every place past them
unfoldable pub is_referred : List ℕ → ℕ → Bool
is_referred s n = every is_hex (take n s) && every is_filler (drop n s)

unfoldable pub is_carried : Header → Bool
is_carried h =
    is_shaped h
    && (is_emergency h && ((state_rule h.country && is_signer h.signer)
    && (is_referred h.reference h.reference_len && (is_day h.issued && is_day h.signed_on))))

-- the same rule by rule
pub record Carried (h : Header) : Type 0 where
  pub country_three : length h.country ≡ 3
  pub signer_four : length h.signer ≡ 4
  pub reference_room : length h.reference ≡ 255
  pub reference_most : h.reference_len ≤ 255
  pub version_three : h.version ≡ 0x03
  pub definition_so : h.definition ≡ 0x5E
  pub category_so : h.category ≡ 0x03
  pub country_rule : state_rule h.country ≡ true
  pub signer_rule : is_signer h.signer ≡ true
  pub reference_hex : every is_hex (take h.reference_len h.reference) ≡ true
  pub reference_fillers : every is_filler (drop h.reference_len h.reference) ≡ true
  pub issued_day : is_day h.issued ≡ true
  pub signed_day : is_day h.signed_on ≡ true
