-- What the C calls that are lent octets promise, with the lines of their `ensures` (lamphudet, src/lib.rt): what C receives, what
-- the range holds afterwards, and that what was lent is octets. So what is shown of octets is shown of every call. A record for
-- each but the digest, of which nothing is shown that asks for octets.
use Rattle.std.specs.Prelude.{ℕ, ◌≡◌, List}
use Rattle.zone.specs.Octets.{AreOctets}
use Rattle.zone.specs.declared.form.Source.TheVariants.{Alone}
use Rattle.text.specs.Read.{read_text}
use Rattle.chip.specs.Presentation.{read_presentation, group_stretch}
use Rattle.runs.specs.Run.{read_entry}
use Rattle.border.specs.declared.received.AnswerInC.{AnswerInC}
use Rattle.as_entry.specs.declared.received.RecordInC.{RecordInC}
use Rattle.border.specs.declared.received.StretchInC.{StretchInC}
use Rattle.inside.specs.Inside.{look_inside}
use Rattle.border.specs.Calls.{next_in_c, stretch_in_c, count_in_c}
use Rattle.as_entry.specs.Written.{written_answer, written_out}
use Rattle.lamphudet.specs.Calls.{read_out}
use Rattle.border.specs.Answer.{in_c}
use Rattle.border.specs.declared.received.DetailInC.{DetailInC}
use Rattle.border.specs.declared.received.NameInC.{NameInC}
use Rattle.border.specs.Details.{detail_in_c, name_in_c}
use Rattle.details.specs.Details.{read_detail}
use Rattle.full_name.specs.FullName.{full_name}
use Rattle.as_entry.specs.Opened.{opened_in_c}
use Rattle.demands.specs.InC.{in_text, in_presentation}

-- `lamphudet_read_text`
pub record ReadsText (house : ℕ) (t out : List ℕ) (r : AnswerInC) (after : List ℕ) : Type 0 where
  pub answers : r ≡ in_text house t out
  pub leaves : after ≡ read_out house (read_text Alone t) out
  pub octets : AreOctets t

-- `lamphudet_read_presentation`
pub record ReadsPresentation (house : ℕ) (w out : List ℕ) (r : AnswerInC) (after : List ℕ) : Type 0 where
  pub answers : r ≡ in_presentation house w out
  pub leaves : after ≡ read_out house (read_presentation w) out
  pub octets : AreOctets w

-- `lamphudet_write_text`
pub record WritesText (e out : List ℕ) (r : AnswerInC) (after : List ℕ) : Type 0 where
  pub answers : r ≡ in_c (written_answer e out)
  pub leaves : after ≡ written_out e out
  pub octets : AreOctets e

-- `lamphudet_open_entry`
pub record OpensEntry (e : List ℕ) (r : RecordInC) : Type 0 where
  pub answers : r ≡ opened_in_c e
  pub octets : AreOctets e

-- `lamphudet_next_entry`
pub record NextEntry (w : List ℕ) (at : ℕ) (r : AnswerInC) : Type 0 where
  pub answers : r ≡ next_in_c (read_entry w at).onward
  pub octets : AreOctets w

-- `lamphudet_group_file`
pub record FindsFile (w : List ℕ) (group : ℕ) (r : StretchInC) : Type 0 where
  pub answers : r ≡ stretch_in_c (group_stretch w group)
  pub octets : AreOctets w

-- `lamphudet_look_inside`
pub record LooksInside (s : List ℕ) (r : AnswerInC) : Type 0 where
  pub answers : r ≡ count_in_c (look_inside s)
  pub octets : AreOctets s

-- `lamphudet_read_detail`
pub record ReadsDetail (s : List ℕ) (asked : ℕ) (r : DetailInC) : Type 0 where
  pub answers : r ≡ detail_in_c (read_detail s asked)
  pub octets : AreOctets s

-- `lamphudet_full_name`
pub record FindsName (file text : List ℕ) (r : NameInC) : Type 0 where
  pub answers : r ≡ name_in_c (full_name file text)
  pub file_octets : AreOctets file
  pub text_octets : AreOctets text
