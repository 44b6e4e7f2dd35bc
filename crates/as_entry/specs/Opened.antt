-- What C receives of an entry that is opened. Document 01 has no such call ("there a record passes as its entry"): house and
-- record are those that reading a run gives, of exactly one entry.
use Rattle.std.specs.Prelude.{ℕ, cond, List, length}
use Rattle.zone.specs.declared.record.Record.{Record}
use Rattle.zone.specs.Record.{blank}
use Rattle.entry.specs.Codes.{form_code}
use Rattle.runs.specs.Run.{read_entry}
use Rattle.as_entry.specs.Written.{is_only}
use Rattle.as_entry.specs.declared.received.RecordInC.{RecordInC}

-- a number, a house and each field of a record; the form by its code in the entry
unfoldable pub record_in_c : (number house : ℕ) → Record → RecordInC
record_in_c number house r = record {
  number = number;
  house = house;
  form = form_code r.form;
  sex = r.sex;
  document_number_len = r.number_len;
  name_len = r.name_len;
  code = r.code;
  state = r.state;
  nationality = r.nationality;
  birth = r.birth;
  expiry = r.expiry;
  document_number = r.number;
  name = r.name;
  own_len = r.own_len;
  own = r.own;
}

-- 18 (at 0, also for none or anything after it), with house 0 and the blank record; else 0
unfoldable pub opened_in_c : List ℕ → RecordInC
opened_in_c e =
    cond (is_only (read_entry e 0).onward (length e)) (record_in_c 0 (read_entry e 0).house (read_entry e 0).kept)
    (record_in_c 18 0 blank)
