-- What writing a text answers and leaves: document 01, "Refusal numbers", 17 and 16.
use Rattle.std.specs.Prelude.{Result}
use Rattle.refusal.specs.declared.Refusal.{Refusal}
use Rattle.std.specs.Prelude.{ℕ, List, ◌≡◌}
use Rattle.refusal.specs.Outcome.{unless}
use Rattle.refusal.specs.Length.{Length, length_of}
use Rattle.refusal.specs.Output.{write_answer, write_out}
use Rattle.zone.specs.Form.{total}
use Rattle.zone.specs.declared.record.Record.{Record}
use Rattle.sound.specs.Sound.{is_sound}
use Rattle.writing.specs.Text.{text_of}

-- 17 for a record that is not sound, then 16; else 72, 88 or 90 octets are written
unfoldable pub text_answer : Record → List ℕ → Length
text_answer r out = write_answer (unless (is_sound r) 17 0) (total r.form) out

-- a refusal changes no octet, a success those of the text and no others
unfoldable pub text_out : Record → List ℕ → List ℕ
text_out r out = write_out (unless (is_sound r) 17 0) (total r.form) (text_of r) out

-- the whole promise: the answer, and what the output holds afterwards
pub record Writes (r : Record) (out after : List ℕ) (w : Result ℕ Refusal) : Type 0 where
  pub answer : length_of w ≡ text_answer r out
  pub output : after ≡ text_out r out
