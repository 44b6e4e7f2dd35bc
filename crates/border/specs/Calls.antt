-- What C receives of a run, of a group's file, of its inside and of a list: document 01, "What the server lends and gets";
-- document 02, requests 2026-10 and 2026-14.
use Rattle.std.specs.Prelude.{ℕ, ◌-◌}
use Rattle.runs.specs.Run as run
use Rattle.tlv.specs.declared.Stretch as tlv
use Rattle.tlv.specs.Read.{Read, value, refusal}
use Rattle.border.specs.declared.received.AnswerInC.{AnswerInC}
use Rattle.border.specs.Answer.{not_refused, refused_in_c}
use Rattle.border.specs.declared.received.StretchInC.{StretchInC}

-- a run's call answers with the next offset alone; at the end with 0 and 0
unfoldable pub next_in_c : run.Onward → AnswerInC
next_in_c (run.next offset) = not_refused offset
next_in_c run.none = not_refused 0
next_in_c (run.refused why place) = refused_in_c why place

-- in C the file of a group, and the entries of a house, are a start and a length
unfoldable pub stretch_in_c : tlv.Stretch → StretchInC
stretch_in_c v = record { start = v.from; length = v.to - v.from }

-- "give the number of elements", and of a list that of its entries; or the refusal
unfoldable pub count_in_c : Read ℕ → AnswerInC
count_in_c (value n) = not_refused n
count_in_c (refusal why place) = refused_in_c why place
