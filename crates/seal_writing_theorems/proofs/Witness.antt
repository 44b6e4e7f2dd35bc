-- Something is accepted: the header that source 002 prints in its section 8, in version 03, and the record that stands there,
-- with
-- an empty signature.
use Prim.Native.Nat.{◌≤◌}
use mathlib.Core.Path.{◌≡◌, refl, ap, sym, ◌∙◌}
use mathlib.Core.Bool.{true}
use mathlib.Core.List.{[]}
use native.Mathlib.Omega.{arith}
use lib.ListN.{length, replicate}
use Rattle.lent.specs.Octets.{octets}
use Rattle.zone.specs.Alphabet.{is_digit, is_letter, is_filler, every}
use Rattle.zone.specs.Record.{padded}
use Rattle.zone.specs.declared.form.Form.TheVariants.{Td2}
use Rattle.field.specs.Date.{is_short}
use Rattle.field.specs.Letters.{letters_then_fillers, state_rule}
use Rattle.sound.specs.Sound.{is_sound}
use Rattle.writing.specs.Text.{text_of}
use Rattle.text_theorems.proofs.TextOfRecord.{length-text}
use Rattle.tlv.specs.Element.{length_octets}
use Rattle.c40.specs.Field.{octets_for}
use Rattle.seal_fields.specs.Day.{is_leap, days_in, is_day}
use Rattle.seal_fields.specs.Hex.{is_hex_letter, is_hex}
use Rattle.seal_header.specs.declared.header.Header.{Header}
use Rattle.seal.specs.Seal.{SealAnswer}
use Rattle.seal_theorems.specs.PrintedSeal.{printed_seal, printed_record, printed_answer}
use Rattle.seal_theorems.proofs.PrintedSeal.{printed_read}
use Rattle.seal_theorems.proofs.SealRecord.{seal_sound}
use Rattle.seal_header.specs.Reference.{is_letter_or_digit}
use Rattle.seal_writing.specs.Carried.{is_signer, Carried}
use Rattle.seal_writing.specs.Seal.{seal_octets, is_td2}
use Rattle.seal_writing.specs.Inner.Parts.{zone_start, zone_part, seal_width}
use Rattle.seal_writing.proofs.Texts.{td2_total}
use Rattle.seal_writing.proofs.PartsJoined.{seal_length}
use Rattle.seal_writing_theorems.specs.Written.{IsAccepted}
use Rattle.seal_writing_theorems.proofs.RoundTrip.{accepted_given}

-- the record that stands in the printed seal is sound
pub printed_sound : is_sound printed_record ≡ true
unfolding printed_answer
printed_sound =
    let s = printed_seal (replicate 64 7) in
    let read = printed_read (replicate 64 7) refl in
    ap (λ (a : SealAnswer). is_sound a.kept) (sym read) ∙ seal_sound s (ap (λ (a : SealAnswer). a.outcome) read)

-- the printed header, in version 03
unfoldable pub given_header : Header
given_header = record {
  version = 0x03;
  country = octets "UTO";
  signer = octets "UT01";
  reference = padded 255 (octets "FFAFF");
  reference_len = 5;
  issued = record { year = 2016; month = 8; day = 8 };
  signed_on = record { year = 2007; month = 8; day = 9 };
  definition = 0x5E;
  category = 0x03;
}

given_carried : Carried given_header
unfolding given_header octets padded every is_hex is_hex_letter is_digit is_letter is_filler is_day is_leap days_in is_short
    state_rule
    letters_then_fillers is_signer is_letter_or_digit
given_carried = record {
  country_three = refl;
  signer_four = refl;
  reference_room = refl;
  reference_most = omega arith;
  version_three = refl;
  definition_so = refl;
  category_so = refl;
  country_rule = refl;
  signer_rule = refl;
  reference_hex = refl;
  reference_fillers = refl;
  issued_day = refl;
  signed_day = refl;
}

pub some_accepted : IsAccepted given_header printed_record []
unfolding printed_record given_header is_td2 seal_width zone_part zone_start length_octets octets_for
some_accepted =
    let wide : length (text_of printed_record) ≡ 72 = length-text printed_record ∙ td2_total Td2 refl in
    let long = seal_length given_header given_carried printed_record [] wide in
    let size : length (seal_octets given_header printed_record []) ≤ 65535 = omega (arith, long) in
    accepted_given given_header printed_record []
    (record { carried = given_carried; td2 = refl; sound = printed_sound; size = size })
