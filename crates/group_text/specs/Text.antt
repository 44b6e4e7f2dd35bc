-- The text of group 1 in a presentation: document 01, "Stages of a presentation", stage 6.
use Rattle.std.specs.Prelude.{ℕ, ◌+◌, List}
use Rattle.refusal.specs.Outcome as outcome
use Rattle.zone.specs.declared.form.Source.TheVariants.{GroupOne}
use Rattle.zone.specs.Record.{blank}
use Rattle.zone.specs.declared.record.Record.{Record}
use Rattle.text.specs.Read.{Answer, read_text}
use Rattle.tlv.specs.Read.{Read, value, refusal, and_then, checked}
use Rattle.tlv.specs.Element.{element}
use Rattle.tlv.specs.Cut.{cut, end_check}
use Rattle.tlv.specs.Tags as Tag

-- then the text's refusals, at their places in the presentation
abbrev pub moved_to : ℕ → outcome.Outcome → outcome.Outcome
moved_to at outcome.passed = outcome.passed
moved_to at (outcome.refused n p) = outcome.refused n (at + p)

unfoldable pub moved : ℕ → Answer → Read Record
moved at a = checked (moved_to at a.outcome) (value a.kept)

-- inside group 1: 5F1F and the text, exactly filling 61
unfoldable pub text_at : List ℕ → ℕ → Read Record
text_at s at = and_then (element s at Tag.text) (λ v. checked (end_check s v.to) (moved v.from (read_text GroupOne (cut s v))))

-- every refusal gives the blank record
unfoldable pub answer_by : Read Record → Answer
answer_by (value r) = record { outcome = outcome.passed; kept = r }
answer_by (refusal n p) = record { outcome = outcome.refused n p; kept = blank }
