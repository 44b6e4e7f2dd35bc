-- Which length and which next offset each answer gives, and what C receives of them.
use Prim.Native.Nat.{ℕ}
use mathlib.Core.Path.{◌≡◌, refl, ◌∙◌}
use mathlib.Core.List.{List}
use Rattle.refusal.specs.Numbers.{Why}
use Rattle.refusal.specs.Length.{Length, written, refused}
use Rattle.zone.specs.declared.form.Source.TheVariants.{Alone}
use Rattle.text.specs.Read.{read_text}
use Rattle.chip.specs.Presentation.{read_presentation}
use Rattle.digest.specs.Answer.{digest_answer}
use Rattle.runs.specs.Run as run
use Rattle.runs.specs.Run.{read_entry}
use Rattle.border.specs.Answer.{in_c}
use Rattle.border.specs.Calls.{next_in_c, count_in_c}
use Rattle.tlv.specs.Read as reading
use Rattle.inside.specs.Inside.{look_inside}
use Rattle.as_entry.specs.Written.{written_answer}
use Rattle.lamphudet.specs.Calls.{read_answer}
use Rattle.run_theorems.specs.Expected.{number_told, value_told}
use Rattle.demands.specs.Given.{length_given, next_given, count_given, Gives}
use Rattle.demands.proofs.NumbersInC.{number_in_c, value_in_c}
use Rattle.demands.proofs.NotZero.{NotZero, read_text_not_zero, read_presentation_not_zero, write_text_not_zero}
use Rattle.demands.proofs.NotZero.{digest_not_zero}
use Rattle.demands.proofs.NextInC.{next_not_zero}
use Rattle.demands.proofs.LookInC.{look_not_zero}

-- a call that writes, of whose answer C receives a number and a value; number 0 is never a refusal
pub gives_told : (l : Length) (number value : ℕ) → number ≡ number_told l → value ≡ value_told l
    → ((why : Why) (p : ℕ) → l ≡ refused why p → number ≡ 0 → ⊥)
    → Gives (λ p. (why : Why) × (l ≡ refused why p)) (length_given l) number value
gives_told (written n) number value a b some = record {
  when_zero = λ zero. b;
  when_refused = λ p x. absurd (some x.0 p x.1 a);
}
gives_told (refused why q) number value a b some = record {
  when_zero = λ zero. absurd (some why q refl zero);
  when_refused = λ p x. let same : q ≡ p = let e = x.1 in cc in (refl, b ∙ same);
}

abbrev GivesLength : Length → Type 0
GivesLength l = Gives (λ p. (why : Why) × (l ≡ refused why p)) (length_given l) (in_c l).number (in_c l).value

gives_length : (l : Length) → NotZero l → GivesLength l
gives_length l some = gives_told l (in_c l).number (in_c l).value (number_in_c l) (value_in_c l) some

pub read_text_gives : (house : ℕ) (t out : List ℕ) → GivesLength (read_answer house (read_text Alone t) out)
read_text_gives house t out = gives_length _ (read_text_not_zero house t out)

pub read_presentation_gives : (house : ℕ) (w out : List ℕ) → GivesLength (read_answer house (read_presentation w) out)
read_presentation_gives house w out = gives_length _ (read_presentation_not_zero house w out)

pub write_text_gives : (e out : List ℕ) → GivesLength (written_answer e out)
write_text_gives e out = gives_length _ (write_text_not_zero e out)

pub digest_gives : (input out : List ℕ) → GivesLength (digest_answer input out)
digest_gives input out = gives_length _ (digest_not_zero input out)

-- a run's call
pub next_gives : (w : List ℕ) (at : ℕ)
    → Gives (λ p. (why : Why) × ((read_entry w at).onward ≡ run.refused why p)) (next_given (read_entry w at).onward)
    (next_in_c (read_entry w at).onward).number (next_in_c (read_entry w at).onward).value
unfolding next_in_c
next_gives w at = go (read_entry w at).onward (next_not_zero w at)
  where
    go : (o : run.Onward) → ((why : Why) (p : ℕ) → o ≡ run.refused why p → (next_in_c o).number ≡ 0 → ⊥)
        → Gives (λ p. (why : Why) × (o ≡ run.refused why p)) (next_given o) (next_in_c o).number (next_in_c o).value
    go (run.next n) some = record { when_zero = λ zero. refl; when_refused = λ p x. absurd (some x.0 p x.1 refl) }
    go run.none some = record { when_zero = λ zero. refl; when_refused = λ p x. absurd (some x.0 p x.1 refl) }
    go (run.refused why q) some = record {
      when_zero = λ zero. absurd (some why q refl zero);
      when_refused = λ p x. let same : q ≡ p = let e = x.1 in cc in (refl, same);
    }

-- the inside of a file
pub look_gives : (s : List ℕ)
    → Gives (λ p. (why : Why) × (look_inside s ≡ reading.refusal why p)) (count_given (look_inside s))
    (count_in_c (look_inside s)).number (count_in_c (look_inside s)).value
unfolding count_in_c
look_gives s = go (look_inside s) (look_not_zero s)
  where
    go : (m : reading.Read ℕ) → ((why : Why) (p : ℕ) → m ≡ reading.refusal why p → (count_in_c m).number ≡ 0 → ⊥)
        → Gives (λ p. (why : Why) × (m ≡ reading.refusal why p)) (count_given m) (count_in_c m).number (count_in_c m).value
    go (reading.value n) some = record { when_zero = λ zero. refl; when_refused = λ p x. absurd (some x.0 p x.1 refl) }
    go (reading.refusal why q) some = record {
      when_zero = λ zero. absurd (some why q refl zero);
      when_refused = λ p x. let same : q ≡ p = let e = x.1 in cc in (refl, same);
    }
