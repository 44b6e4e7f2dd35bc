-- A seal that a C host gives to be written: document 02, 2026-13, "header fields, a sound TD2 record and a signature go in". The
-- record passes as its entry (document 01, "What the server lends and gets"), and as of the text writer 18 is tested first, at 0,
-- also for none or anything after it.
use Rattle.std.specs.Prelude.{ℕ, cond, List, length}
use Rattle.refusal.specs.Numbers.{by}
use Rattle.refusal.specs.Length.{Length, refused}
use Rattle.runs.specs.Run.{read_entry}
use Rattle.as_entry.specs.Written.{is_only}
use Rattle.border.specs.declared.received.AnswerInC.{AnswerInC}
use Rattle.border.specs.Answer.{in_c}
use Rattle.seal_fields.specs.declared.day.Day.{Day}
use Rattle.seal_header.specs.declared.header.Header.{Header}
use Rattle.seal_writing.specs.Seal.{seal_answer, seal_out}
use Rattle.lamphudet_seals.specs.declared.received.DayInC.{DayInC}
use Rattle.lamphudet_seals.specs.declared.received.HeaderInC.{HeaderInC}

unfoldable pub day_given : DayInC → Day
day_given d = record { year = d.year; month = d.month; day = d.day }

-- the header that C's struct says
unfoldable pub header_given : HeaderInC → Header
header_given h = record {
  version = h.version;
  country = h.country;
  signer = h.signer;
  reference = h.reference;
  reference_len = h.reference_len;
  issued = day_given h.issued;
  signed_on = day_given h.signed_on;
  definition = h.definition;
  category = h.category;
}

-- 18, then what the writer answers of the entry's record; its house is no part of a seal
unfoldable pub written_answer : (entry : List ℕ) → HeaderInC → (signature out : List ℕ) → Length
written_answer e h g out =
    cond (is_only (read_entry e 0).onward (length e)) (seal_answer (header_given h) (read_entry e 0).kept g out)
    (refused (by 18) 0)

unfoldable pub written_out : (entry : List ℕ) → HeaderInC → (signature out : List ℕ) → List ℕ
written_out e h g out =
    cond (is_only (read_entry e 0).onward (length e)) (seal_out (header_given h) (read_entry e 0).kept g out) out

-- told in numbers
unfoldable pub write_seal_in_c : (entry : List ℕ) → HeaderInC → (signature out : List ℕ) → AnswerInC
write_seal_in_c e h g out = in_c (written_answer e h g out)
