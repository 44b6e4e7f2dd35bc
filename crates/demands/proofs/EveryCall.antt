-- DEMAND 1, call by call: a refusal has one of the call's own numbers (refusal, specs/Calls) and a place no further than the end
-- of what was lent, gives the blank record and leaves every octet of the output; a success changes the octets that it reports and
-- no others. Of writing an entry and a text, and of a run: run_theorems, proofs/EveryCall.
use Prim.Native.Nat.{ℕ, ◌≤◌}
use mathlib.Core.Path.{◌≡◌, refl}
use mathlib.Core.Bool.{Bool, true, false, cond}
use mathlib.Core.List.{List}
use native.Mathlib.Omega.{arith}
use lib.Dec.{leb}
use lib.ListN.{length}
use Rattle.refusal.specs.Numbers.{by}
use Rattle.refusal.specs.Calls.{of_text, of_presentation, of_inside, of_run, of_text_writer_in_c, of_digest, entered, is_of}
use Rattle.refusal.specs.Outcome.{unless}
use Rattle.refusal.specs.Length as told
use Rattle.refusal.specs.Output.{Told, Answers}
use Rattle.refusal.proofs.Outcomes.{refused_not_written}
use Rattle.refusal.proofs.Each.{each_unless}
use Rattle.refusal.proofs.Calls.{told_of}
use Rattle.refusal.proofs.Output.{write_answers}
use Rattle.zone.specs.declared.form.Source.TheVariants.{Alone}
use Rattle.zone.specs.Octets.{AreOctets}
use Rattle.zone.specs.Record.{blank}
use Rattle.text.specs.Read.{read_text}
use Rattle.text.proofs.Within.{text_within}
use Rattle.sha256.specs.Hash.{sha256}
use Rattle.digest.specs.Answer.{digest_answer, digest_out}
use Rattle.sha256.proofs.DigestLength.{digest_length}
use Rattle.writing.specs.Answer.{text_answer, text_out}
use Rattle.runs.specs.Run as run
use Rattle.runs.specs.Run.{read_entry}
use Rattle.chip.specs.Presentation.{read_presentation}
use Rattle.border.specs.Answer.{in_c}
use Rattle.as_entry.specs.Written.{is_only, written_answer, written_out}
use Rattle.border.specs.Calls.{next_in_c, count_in_c}
use Rattle.tlv.specs.Read.{Read, value, refusal}
use Rattle.inside.specs.Inside.{look_inside}
use Rattle.lamphudet.specs.Calls.{read_answer, read_out}
use Rattle.as_entry.specs.Opened.{record_in_c, opened_in_c}
use Rattle.text_theorems.proofs.FirstFailing.{refused_blank}
use Rattle.text_theorems.proofs.Expected.{text_numbered}
use Rattle.presentation_theorems.proofs.Acceptance.{presentation_blank}
use Rattle.presentation_theorems.proofs.Expected.{presentation_numbered, presentation_within}
use Rattle.inside_theorems.proofs.Refusals.{look_told}
use Rattle.run_theorems.specs.EveryCall.{Reads, AnswersInC}
use Rattle.run_theorems.proofs.EveryCall.{entered_answers, sound_text_answers, run_steps, answers_in_c}
use Rattle.demands.specs.InC.{in_text, in_presentation}
use Rattle.demands.proofs.NumbersInC.{number_in_c, value_in_c}
use Rattle.demands.proofs.WriteInC.{only_sound}

-- ---- the readers

pub text_reads : (t : List ℕ) → Reads of_text (length t) (read_text Alone t)
text_reads t = record {
  when_refused = λ why p e. (
    (told_of of_text why (text_numbered Alone t why p e), text_within Alone t why p e),
    refused_blank Alone t why p e,
  );
}

pub presentation_reads : (w : List ℕ) → Reads of_presentation (length w) (read_presentation w)
presentation_reads w = record {
  when_refused = λ why p e. (
    (told_of of_presentation why (presentation_numbered w why p e), presentation_within w why p e),
    presentation_blank w why p e,
  );
}

-- ---- the calls that write

pub digest_answers : (input out : List ℕ) → Answers of_digest (length input) out (digest_answer input out) (digest_out input out)
unfolding digest_answer digest_out
digest_answers input out =
    let b = leb (length input) 65535 in
    write_answers 32 (sha256 input) out of_digest refl (length input) (unless b 1 0)
    (each_unless (Told of_digest (length input)) b 1 0 (refl, omega arith)) (λ e. digest_length input)

-- of the text of exactly one entry, whose record is sound
pub written_answers : (e out : List ℕ) → AreOctets e
    → Answers of_text_writer_in_c (length e) out (written_answer e out) (written_out e out)
unfolding written_answer written_out
written_answers e out small = go (is_only (read_entry e 0).onward (length e)) refl
  where
    go : (b : Bool) → is_only (read_entry e 0).onward (length e) ≡ b
        → Answers of_text_writer_in_c (length e) out (cond b (text_answer (read_entry e 0).kept out) (told.refused (by 18) 0))
        (cond b (text_out (read_entry e 0).kept out) out)
    go true only = sound_text_answers (length e) (read_entry e 0).kept out (only_sound e out small only) of_text_writer_in_c refl
    go false only = record {
      when_refused = λ why p q. let a : by 18 ≡ why = cc in let b : 0 ≡ p = cc in rw (← a, ← b) ((refl, omega arith), refl);
      when_written = λ n q. absurd (refused_not_written q);
    }

-- ---- what C receives

in_c_answers : (numbers : List ℕ) → is_of numbers 0 ≡ false → (end : ℕ) (out : List ℕ) (l : told.Length) (after : List ℕ)
    → Answers numbers end out l after → AnswersInC numbers end out (in_c l).number (in_c l).value after
in_c_answers numbers none end out l after h = rw (number_in_c l, value_in_c l) (answers_in_c numbers none end out l after h)

module _ (house : ℕ) (t out : List ℕ) where
  pub read_text_answers : AnswersInC (entered of_text) (length t) out (in_text house t out).number (in_text house t out).value
      (read_out house (read_text Alone t) out)
  unfolding read_answer read_out
  read_text_answers = in_c_answers (entered of_text) refl (length t) out _ _
      (entered_answers (length t) house (read_text Alone t).kept out of_text (read_text Alone t).outcome
      (λ why p e. ((text_reads t).when_refused why p e).0))

module _ (house : ℕ) (w out : List ℕ) where
  pub read_presentation_answers : AnswersInC (entered of_presentation) (length w) out (in_presentation house w out).number
      (in_presentation house w out).value (read_out house (read_presentation w) out)
  unfolding read_answer read_out
  read_presentation_answers = in_c_answers (entered of_presentation) refl (length w) out _ _
      (entered_answers (length w) house (read_presentation w).kept out of_presentation (read_presentation w).outcome
      (λ why p e. ((presentation_reads w).when_refused why p e).0))

pub octets_answers : (e out : List ℕ) → AreOctets e
    → AnswersInC of_text_writer_in_c (length e) out (in_c (written_answer e out)).number (in_c (written_answer e out)).value
    (written_out e out)
octets_answers e out small = in_c_answers of_text_writer_in_c refl (length e) out _ _ (written_answers e out small)

pub digest_answers_in_c : (input out : List ℕ)
    → AnswersInC of_digest (length input) out (in_c (digest_answer input out)).number (in_c (digest_answer input out)).value
    (digest_out input out)
digest_answers_in_c input out = in_c_answers of_digest refl (length input) out _ _ (digest_answers input out)

-- a run's call tells 0, or a run's number at the offset asked for
pub next_answers : (w : List ℕ) (at : ℕ) → ((next_in_c (read_entry w at).onward).number ≡ 0 → ⊥)
    → (is_of of_run (next_in_c (read_entry w at).onward).number ≡ true) × ((next_in_c (read_entry w at).onward).value ≡ at)
unfolding next_in_c
next_answers w at some = go (read_entry w at).onward refl some
  where
    go : (o : run.Onward) → (read_entry w at).onward ≡ o → ((next_in_c o).number ≡ 0 → ⊥)
        → (is_of of_run (next_in_c o).number ≡ true) × ((next_in_c o).value ≡ at)
    go (run.next n) e z = absurd (z refl)
    go run.none e z = absurd (z refl)
    go (run.refused why p) e z = let r = (run_steps at w).when_refused why p e in (told_of of_run why r.0, r.1)

-- the inside of a file: 0, or one of the call's numbers at a place no further than the file's end
pub look_answers : (s : List ℕ) → ((count_in_c (look_inside s)).number ≡ 0 → ⊥)
    → (is_of of_inside (count_in_c (look_inside s)).number ≡ true) × ((count_in_c (look_inside s)).value ≤ length s)
unfolding count_in_c
look_answers s some = go (look_inside s) refl some
  where
    go : (m : Read ℕ) → look_inside s ≡ m → ((count_in_c m).number ≡ 0 → ⊥)
        → (is_of of_inside (count_in_c m).number ≡ true) × ((count_in_c m).value ≤ length s)
    go (value n) e z = absurd (z refl)
    go (refusal why p) e z = let r = look_told s why p e in (told_of of_inside why r.0, r.1)

-- an entry that is opened: 18, house 0 and the blank record, where the number is not 0
pub open_answers : (e : List ℕ) → ((opened_in_c e).number ≡ 0 → ⊥) → opened_in_c e ≡ record_in_c 18 0 blank
unfolding opened_in_c record_in_c
open_answers e some = go (is_only (read_entry e 0).onward (length e)) some
  where
    go : (b : Bool)
        → ((cond b (record_in_c 0 (read_entry e 0).house (read_entry e 0).kept) (record_in_c 18 0 blank)).number ≡ 0 → ⊥)
        → cond b (record_in_c 0 (read_entry e 0).house (read_entry e 0).kept) (record_in_c 18 0 blank) ≡ record_in_c 18 0 blank
    go true z = absurd (z refl)
    go false z = refl
