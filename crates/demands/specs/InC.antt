-- What C receives of the two calls that read, and from where of the one that finds a name: document 01, "What the server lends
-- and gets"; document 02, request 2026-01.
use Rattle.std.specs.Prelude.{ℕ, cond, List, [], eqb}
use Rattle.zone.specs.declared.form.Source.TheVariants.{Alone}
use Rattle.text.specs.Read.{read_text}
use Rattle.chip.specs.Presentation.{read_presentation}
use Rattle.border.specs.declared.received.AnswerInC.{AnswerInC}
use Rattle.border.specs.Answer.{in_c}
use Rattle.lamphudet.specs.Calls.{read_answer}

-- `lamphudet_read_text`
abbrev pub in_text : (house : ℕ) (t out : List ℕ) → AnswerInC
in_text house t out = in_c (read_answer house (read_text Alone t) out)

-- `lamphudet_read_presentation`
abbrev pub in_presentation : (house : ℕ) (w out : List ℕ) → AnswerInC
in_presentation house w out = in_c (read_answer house (read_presentation w) out)

-- `lamphudet_full_name`: the range that a name is from, by the number that tells it
unfoldable pub range_in_c : ℕ → (file text : List ℕ) → List ℕ
range_in_c from file text = cond (eqb from 1) file (cond (eqb from 2) text [])
