-- What reading a text answers, for every list of octets: document 01, "The text" and "Refusal numbers".
use Rattle.std.specs.Prelude.{Option, Some, None, Result}
use Rattle.std.specs.Prelude.{ℕ, List, [], ◌∷◌, length, drop}
use Rattle.refusal.specs.Numbers.{by}
use Rattle.refusal.specs.Outcome.{Outcome, passed, refused, outcome_of}
use Rattle.zone.specs.Part.{Part, number, name, own}
use Rattle.zone.specs.Rows.{◌is◌, in_rows}
use Rattle.zone.specs.Form.{form_of, field, own_part, before_own}
use Rattle.zone.specs.Record.{blank, trimmed, holding}
use Rattle.zone.specs.declared.form.Form.{Form}
use Rattle.zone.specs.declared.form.Source.{Source}
use Rattle.zone.specs.declared.record.Record.{Record}
use Rattle.text_digits.specs.Number.{span_of, number_by}
use Rattle.text.specs.Order.{verdict_by}
use Rattle.text_digits.specs.declared.number.Span.{Span}
use Rattle.std.specs.Result.{result_unwrap_or}
use Rattle.refusal.specs.declared.Refusal.{Refusal}

-- an answer in the paper's terms: what was decided, and the record
pub record Answer : Type 0 where
  pub outcome : Outcome
  pub kept : Record

-- the paper's number and values of what the code answers; every refusal gives the blank record
unfoldable pub answer_of : Result Record Refusal → Answer
answer_of r = record { outcome = outcome_of r; kept = result_unwrap_or r blank }

-- the field of the issuer's own data, behind what a number of n characters takes of it (document 02, request 2026-06)
unfoldable pub own_in : Form → List ℕ → (n : ℕ) → List ℕ
own_in f t n = drop (before_own f n) (field f (own_part f) t)

-- what stands in a text for a field: number, name and the issuer's own data without trailing fillers
unfoldable pub in_text : Form → List ℕ → Span → Part → List ℕ
in_text f t span x =
    in_rows (field f x t)
    (number is number_by f t span
    ∷ name is trimmed (field f name t)
    ∷ own is trimmed (own_in f t (length (number_by f t span)))
    ∷ []) x

-- the record of a text holds the fields that stand in it
unfoldable pub record_by : Form → List ℕ → Span → Record
record_by f t span = holding f (in_text f t span)

-- every refusal gives the blank record
unfoldable pub answered : Outcome → Record → Answer
answered passed r = record { outcome = passed; kept = r }
answered (refused why place) r = record { outcome = refused why place; kept = blank }

-- 1: a text not 72, 88 or 90, at its start
unfoldable pub read_by : Option Form → List ℕ → Answer
read_by (Some f) t = answered (verdict_by f t (span_of f t)) (record_by f t (span_of f t))
read_by None t = answered (refused (by 1) 0) blank

-- a text that stands alone, in group 1 or in a seal
unfoldable pub read_text : Source → List ℕ → Answer
read_text source t = read_by (form_of source t) t
