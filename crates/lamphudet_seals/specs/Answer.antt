-- What C receives of a seal: document 02, 2026-08, "The answer is header fields, record and signature". The record passes as its
-- entry (document 01, "What the server lends and gets"); after the seal's own refusals come 17 and 16, as for a text.
use Rattle.std.specs.Prelude.{ℕ, List}
use Rattle.refusal.specs.Numbers.{no_digit, number_of, expected_of}
use Rattle.refusal.specs.Length.{Length, written, refused}
use Rattle.tlv.specs.declared.Stretch.{Stretch}
use Rattle.entry.specs.Entered.{entered_answer, entered_out}
use Rattle.seal_fields.specs.declared.day.Day.{Day}
use Rattle.seal_header.specs.declared.header.Header.{Header}
use Rattle.seal_header.specs.Header.{blank_header}
use Rattle.seal.specs.Seal.{read_seal}
use Rattle.border.specs.Calls.{stretch_in_c}
use Rattle.lamphudet_seals.specs.declared.received.DayInC.{DayInC}
use Rattle.lamphudet_seals.specs.declared.received.SealInC.{SealInC}

unfoldable pub day_in_c : Day → DayInC
day_in_c d = record { year = d.year; month = d.month; day = d.day }

-- a number, an expected digit, a value and what a seal says
unfoldable pub fields_in_c : (number expected value : ℕ) → Header → Stretch → SealInC
fields_in_c number expected value h v = record {
  number = number;
  expected = expected;
  value = value;
  signature = stretch_in_c v;
  issued = day_in_c h.issued;
  signed_on = day_in_c h.signed_on;
  version = h.version;
  definition = h.definition;
  category = h.category;
  reference_len = h.reference_len;
  country = h.country;
  signer = h.signer;
  reference = h.reference;
}

-- 0 and how many octets of entry were written; a refusal, 17 and 16 included, gives the blank header and no signature
unfoldable pub seal_in_c : Length → Header → Stretch → SealInC
seal_in_c (written n) h v = fields_in_c 0 no_digit n h v
seal_in_c (refused why place) h v = fields_in_c (number_of why) (expected_of why) place blank_header (record { from = 0; to = 0 })

unfoldable pub read_seal_in_c : ℕ → List ℕ → List ℕ → SealInC
read_seal_in_c house s out =
    seal_in_c (entered_answer (read_seal s).outcome house (read_seal s).kept out) (read_seal s).header (read_seal s).signature

unfoldable pub read_seal_out : ℕ → List ℕ → List ℕ → List ℕ
read_seal_out house s out = entered_out (read_seal s).outcome house (read_seal s).kept out
