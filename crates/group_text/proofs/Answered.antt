-- What is answered of a text says what was read: a refusal gives the blank record.
use Rattle.std.specs.Prelude.{Result, Ok, Err}
use mathlib.Core.Path.{◌≡◌, refl}
use Rattle.refusal.specs.declared.Refusal.{Refusal}
use Rattle.zone.specs.declared.record.Record.{Record}
use Rattle.text.specs.Read.{answer_of}
use Rattle.tlv.specs.Read.{read_of}
use Rattle.group_text.specs.Text.{answer_by}

pub answered_by : (r : Result Record Refusal) → answer_of r ≡ answer_by (read_of r)
unfolding answer_of answer_by
answered_by (Ok r) = refl
answered_by (Err e) = refl
