-- What a passenger shows at the quay, and the call of C that reads it to an entry: document 01, "What the server lends and gets";
-- document 02, request 2026-08, for seals. No other call of C writes an entry.
use Rattle.std.specs.Prelude.{ℕ, List, take}
use Rattle.zone.specs.declared.form.Source.TheVariants.{Alone}
use Rattle.zone.specs.declared.record.Record.{Record}
use Rattle.text.specs.Read.{Answer, read_text}
use Rattle.chip.specs.Presentation.{read_presentation}
use Rattle.seal.specs.Seal.{read_seal}
use Rattle.border.specs.Answer.{in_c}
use Rattle.lamphudet.specs.Calls.{read_answer, read_out}
use Rattle.lamphudet_seals.specs.Answer.{read_seal_in_c, read_seal_out}

pub data Shown : Type 0 where
  text : List ℕ → Shown
  presentation : List ℕ → Shown
  seal : List ℕ → Shown

-- what was decided of it, and the record
unfoldable pub answered : Shown → Answer
answered (text t) = read_text Alone t
answered (presentation w) = read_presentation w
answered (seal s) = record { outcome = (read_seal s).outcome; kept = (read_seal s).kept }

-- a call: the house, what was shown, and the range lent for the entry
pub record Call : Type 0 where
  pub house : ℕ
  pub shown : Shown
  pub range : List ℕ

-- ---- `lamphudet_read_text`, `lamphudet_read_presentation`, `lamphudet_read_seal`

-- the number that C receives
abbrev pub number_of : (house : ℕ) → Shown → (range : List ℕ) → ℕ
number_of house (text t) out = (in_c (read_answer house (read_text Alone t) out)).number
number_of house (presentation w) out = (in_c (read_answer house (read_presentation w) out)).number
number_of house (seal s) out = (read_seal_in_c house s out).number

-- the value
abbrev pub value_of : (house : ℕ) → Shown → (range : List ℕ) → ℕ
value_of house (text t) out = (in_c (read_answer house (read_text Alone t) out)).value
value_of house (presentation w) out = (in_c (read_answer house (read_presentation w) out)).value
value_of house (seal s) out = (read_seal_in_c house s out).value

-- what is in the range afterwards
abbrev pub left_of : (house : ℕ) → Shown → (range : List ℕ) → List ℕ
left_of house (text t) out = read_out house (read_text Alone t) out
left_of house (presentation w) out = read_out house (read_presentation w) out
left_of house (seal s) out = read_seal_out house s out

-- ---- the same of a call

unfoldable pub number : Call → ℕ
number c = number_of c.house c.shown c.range

unfoldable pub left : Call → List ℕ
left c = left_of c.house c.shown c.range

-- the octets that it reports, and so what the host keeps of it
unfoldable pub kept_of : Call → List ℕ
kept_of c = take (value_of c.house c.shown c.range) (left c)

-- the record that was read
unfoldable pub record_of : Call → Record
record_of c = (answered c.shown).kept
