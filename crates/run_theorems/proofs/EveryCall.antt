-- DEMAND 1 of the calls that write: an entry, what was read as an entry (`entered_answers`), a text (`text_answers`); of a run
-- that is read (`run_steps`); and of the numbers that C receives (`answers_in_c`).
use Prim.Native.Nat.{ℕ, ◌+◌}
use mathlib.Core.Path.{◌≡◌, refl, sym}
use mathlib.Core.Bool.{true, false, ◌&&◌}
use mathlib.Core.List.{List, []}
use native.Mathlib.Omega.{arith}
use lib.Dec.{eqb, ltb}
use lib.ListN.{length, drop}
use Rattle.std.specs.Prelude.{Option, Some, None}
use Rattle.lent.proofs.Bools.{and_both, either_way}
use Rattle.refusal.specs.Numbers.{by, number_of}
use Rattle.refusal.specs.Calls.{of_entry, of_text_writer, entered, is_of}
use Rattle.refusal.specs.Outcome.{Outcome, passed, or_else, unless}
use Rattle.refusal.specs.Length as told
use Rattle.refusal.specs.Output.{Told, Answers}
use Rattle.refusal.proofs.Outcomes.{both_passed, unless_kept}
use Rattle.refusal.proofs.Each.{Each, each_passed, each_else, each_unless}
use Rattle.refusal.proofs.Calls.{never_of, entered_of}
use Rattle.refusal.proofs.Output.{write_answers}
use Rattle.zone.specs.declared.form.Form.{Form}
use Rattle.zone.specs.declared.record.Record.{Record}
use Rattle.zone.specs.Form.{total}
use Rattle.zone.specs.Record.{blank}
use Rattle.sound.specs.Sound.{is_sound}
use Rattle.sound.proofs.SoundRecord.{taken_apart}
use Rattle.writing.specs.Text.{text_of}
use Rattle.writing.specs.Answer.{text_answer, text_out}
use Rattle.entry.specs.Entry.{entry_of, size, is_house, entry_answer, entry_out}
use Rattle.entry.specs.Entered.{entered_answer, entered_out}
use Rattle.runs.specs.Run as run
use Rattle.entry.proofs.Values.{length_entry}
use Rattle.text_theorems.proofs.RoundTrip.{text_length}
use Rattle.run_theorems.specs.Expected.{number_told, value_told}
use Rattle.run_theorems.specs.EveryCall.{Steps, AnswersInC}
use Rattle.runs.proofs.Onward.{none_not_refused, next_not_refused, next_not_none}

-- ---- the calls that write

module _ (end house : ℕ) (r : Record) (out : List ℕ) where
  -- of a reader with these numbers
  pub entered_answers : (numbers : List ℕ) (o : Outcome) → Each (Told numbers end) o
      → Answers (entered numbers) end out (entered_answer o house r out) (entered_out o house r out)
  unfolding entered_answer entered_out
  entered_answers numbers o each =
      let b = is_house house && is_sound r in
      let all = entered numbers in
      write_answers (size r) (entry_of house r) out all refl end (or_else o (unless b 17 0))
      (each_else (Told all end) o (unless b 17 0)
      (λ why p e. let h = each why p e in (entered_of numbers (number_of why) h.0, h.1))
      (each_unless (Told all end) b 17 0 (refl, omega arith)))
      (λ e.
      let sound = (and_both (is_house house) (is_sound r) (unless_kept b 17 0 (both_passed o (unless b 17 0) e).1)).1 in
      length_entry r (taken_apart r sound) house)

  pub entry_answers : Answers of_entry end out (entry_answer house r out) (entry_out house r out)
  unfolding entry_answer entry_out entered_answer entered_out
  entry_answers = entered_answers [] passed (each_passed (Told [] end))

module _ (end : ℕ) (r : Record) (out : List ℕ) where
  -- of a call that tells 16, and 17 where the record may be unsound
  text_by : (numbers : List ℕ) → is_of numbers 16 ≡ true → Each (Told numbers end) (unless (is_sound r) 17 0)
      → Answers numbers end out (text_answer r out) (text_out r out)
  unfolding text_answer text_out
  text_by numbers sixteen each =
      write_answers (total r.form) (text_of r) out numbers sixteen end (unless (is_sound r) 17 0) each
      (λ e. text_length r (unless_kept (is_sound r) 17 0 e))

  pub text_answers : Answers of_text_writer end out (text_answer r out) (text_out r out)
  text_answers = text_by of_text_writer refl (each_unless (Told of_text_writer end) (is_sound r) 17 0 (refl, omega arith))

  -- of a sound record
  pub sound_text_answers : is_sound r ≡ true → (numbers : List ℕ) → is_of numbers 16 ≡ true
      → Answers numbers end out (text_answer r out) (text_out r out)
  sound_text_answers sound numbers sixteen = text_by numbers sixteen (rw sound (each_passed (Told numbers end)))

-- ---- a run

module _ (at : ℕ) where
  none_steps : Steps at (record { onward = run.none; house = 0; kept = blank })
  none_steps = record { when_refused = λ why p e. absurd (none_not_refused why p e); when_none = λ e. (refl, refl) }

  refused_steps : Steps at (run.no_entry at)
  unfolding run.no_entry
  refused_steps = record {
    when_refused = λ why p e. (let same : by 18 ≡ why = cc in rw (← same) refl, cc, refl, refl);
    when_none = λ e. absurd (none_not_refused _ at (sym e));
  }

  next_steps : (n house : ℕ) (r : Record) → Steps at (record { onward = run.next n; house = house; kept = r })
  next_steps n house r = record {
    when_refused = λ why p e. absurd (next_not_refused n why p e);
    when_none = λ e. absurd (next_not_none n e);
  }

  entry_steps : (told : Option Form) (s : List ℕ) → Steps at (run.entry_by told s at)
  unfolding run.entry_by
  entry_steps None s = refused_steps
  entry_steps (Some f) s = either_way (Steps at) (run.is_entry f s) _ _
      (next_steps (at + run.size_in s) (run.house_in s) (run.record_in f s)) refused_steps

  pub run_steps : (w : List ℕ) → Steps at (run.read_entry w at)
  unfolding run.read_entry
  run_steps w =
      either_way (Steps at) (eqb at (length w)) _ _ none_steps
      (either_way (Steps at) (ltb (length w) at) _ _ refused_steps (entry_steps (run.form_in (drop at w)) (drop at w)))

-- ---- what C receives

-- of a call that does not refuse by 0
module _ (numbers : List ℕ) (none : is_of numbers 0 ≡ false) (end : ℕ) (out : List ℕ) where
  pub answers_in_c : (l : told.Length) (after : List ℕ) → Answers numbers end out l after
      → AnswersInC numbers end out (number_told l) (value_told l) after
  answers_in_c (told.written n) after h = record {
    when_refused = λ some. absurd (some refl);
    when_zero = λ zero. h.when_written n refl;
  }
  answers_in_c (told.refused why p) after h = record {
    when_refused = λ some. let r = h.when_refused why p refl in (r.0.0, r.0.1, r.1);
    when_zero = λ zero. absurd (never_of numbers (number_of why) 0 (h.when_refused why p refl).0.0 none zero);
  }
