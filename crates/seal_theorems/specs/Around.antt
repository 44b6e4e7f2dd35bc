-- A seal around a text: the header that source 002 prints in its section 8, and any text and signature.
use Rattle.std.specs.Prelude.{ℕ, List, []}
use Rattle.lent.specs.Octets.{octets}
use Rattle.seal_fields.specs.Spaces.{spaced}
use Rattle.seal_header.specs.Head.{Head}
use Rattle.seal_theorems.specs.Sealed.{Contents}

-- the header of source 002's table 10: it has nine characters of signer and certificate reference, which is version octet 02's
-- layout by table 1
unfoldable pub printed_head : Head
printed_head = record {
  version = 0x02;
  country = octets "UTO";
  signer = octets "UT01";
  certificate = octets "FFAFF";
  issued = record { year = 2016; month = 8; day = 8 };
  signed = record { year = 2007; month = 8; day = 9 };
}

-- the least that carries a text: no feature beside it; and a signature
unfoldable pub around : (text signature : List ℕ) → Contents
around t g = record { head = printed_head; before = []; text = spaced t; behind = []; signature = g }
