-- The seal that source 002 prints in its section 8 (tables 10 and 11), and what is read of it. Two things are not as printed: the
-- version octet is 02, since the header is laid out as table 1 has it for 02; and behind the features stands a signature of 64
-- octets, since section 8 "only contains the header and data of the document".
use Rattle.std.specs.Prelude.{ℕ, List, [], ◌∷◌}
use Prim.Native.Char.{code}
use Prim.Native.String.{String}
use Rattle.lent.specs.Octets.{octets}
use Rattle.refusal.specs.Outcome.{passed}
use Rattle.zone.specs.declared.form.Form.TheVariants.{Td2}
use Rattle.zone.specs.declared.record.Record.{Record}
use Rattle.zone.specs.Record.{padded}
use Rattle.zone.specs.Rooms.{number_room, name_room, own_room}
use Rattle.seal_header.specs.declared.header.Header.{Header}
use Rattle.seal.specs.Seal.{SealAnswer}

-- table 10, table 11, and then FF, 40 and the signature
unfoldable pub printed_seal : (signature : List ℕ) → List ℕ
printed_seal g =
    0xDC ∷ 0x02
    ∷ 0xD9 ∷ 0xC5
    ∷ 0xD9 ∷ 0xAD ∷ 0x22 ∷ 0x4C ∷ 0x5A ∷ 0x8C
    ∷ 0x7B ∷ 0x52 ∷ 0x60
    ∷ 0x7B ∷ 0x79 ∷ 0x67
    ∷ 0x5E ∷ 0x03
    ∷ 0x02 ∷ 0x30
    ∷ 0x8A ∷ 0x1B ∷ 0xD2 ∷ 0xB3 ∷ 0xC5 ∷ 0x49 ∷ 0xCD ∷ 0x1D ∷ 0xA9 ∷ 0x3C ∷ 0x5B ∷ 0xD4 ∷ 0x58 ∷ 0x13 ∷ 0x5C ∷ 0x6F
    ∷ 0x57 ∷ 0xFC ∷ 0x13 ∷ 0x3C ∷ 0x13 ∷ 0x3C ∷ 0x13 ∷ 0x3C ∷ 0x6B ∷ 0x38 ∷ 0x20 ∷ 0x8A ∷ 0x4D ∷ 0x0D ∷ 0x4A ∷ 0x32
    ∷ 0xB0 ∷ 0xC1 ∷ 0x1A ∷ 0xE6 ∷ 0x26 ∷ 0x84 ∷ 0x20 ∷ 0x35 ∷ 0x32 ∷ 0xD2 ∷ 0x51 ∷ 0xBC ∷ 0x13 ∷ 0x3C ∷ 0x13 ∷ 0x43
    ∷ 0xFF ∷ 0x40 ∷ g

-- table 11: the two lines of the zone
unfoldable pub printed_text : String
printed_text = "I<UTOERIKSSON<<ANNA<MARIA<<<<<<<<<<<D231458907UTO7408122F1204159<<<<<<<6"

-- table 10
unfoldable pub printed_header : Header
printed_header = record {
  version = 0x02;
  country = octets "UTO";
  signer = octets "UT01";
  reference = padded 255 (octets "FFAFF");
  reference_len = 5;
  issued = record { year = 2016; month = 8; day = 8 };
  signed_on = record { year = 2007; month = 8; day = 9 };
  definition = 0x5E;
  category = 0x03;
}

unfoldable pub printed_record : Record
printed_record = record {
  form = Td2;
  code = octets "I<";
  state = octets "UTO";
  number = padded number_room (octets "D23145890");
  number_len = 9;
  nationality = octets "UTO";
  birth = octets "740812";
  sex = code "F";
  expiry = octets "120415";
  name = padded name_room (octets "ERIKSSON<<ANNA<MARIA");
  name_len = 20;
  own = padded own_room [];
  own_len = 0;
}

-- the signature is the 64 octets behind 70
unfoldable pub printed_answer : SealAnswer
printed_answer = record {
  outcome = passed;
  header = printed_header;
  kept = printed_record;
  signature = record { from = 70; to = 134 };
}
