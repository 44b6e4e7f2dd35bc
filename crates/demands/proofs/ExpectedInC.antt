-- THE EXPECTED DIGIT at the C border (document 02, 2026-07): with 9 stands the digit that reading worked out, 0 to 9, and
-- 255 else.
use Prim.Native.Nat.{ℕ, ◌≤◌}
use mathlib.Core.Path.{◌≡◌, refl}
use mathlib.Core.Bool.{true, false≢true}
use mathlib.Core.List.{List}
use native.Mathlib.Omega.{arith}
use Rattle.zone.specs.declared.form.Source.TheVariants.{Alone, GroupOne}
use Rattle.refusal.specs.Numbers.{Why, by, expecting}
use Rattle.refusal.specs.Outcome.{Outcome, refused}
use Rattle.refusal.specs.Length as told
use Rattle.text.specs.Read.{read_text}
use Rattle.tlv.specs.Cut.{cut}
use Rattle.chip.specs.Presentation.{read_presentation}
use Rattle.digest.specs.Answer.{digest_answer}
use Rattle.runs.specs.Run as run
use Rattle.border.specs.Answer.{in_c}
use Rattle.as_entry.specs.Written.{written_answer}
use Rattle.border.specs.Calls.{next_in_c, count_in_c}
use Rattle.tlv.specs.Read.{Read, value, refusal}
use Rattle.refusal.specs.Calls.{of_inside, tells}
use Rattle.inside.specs.Inside.{look_inside}
use Rattle.inside_theorems.proofs.Refusals.{look_told}
use Rattle.lamphudet.specs.Calls.{read_answer}
use Rattle.text_theorems.proofs.Expected.{nine_tells, digit_told}
use Rattle.presentation_theorems.proofs.Expected.{expected_carried, presentation_nine}
use Rattle.runs.proofs.Onward.{refused_here}
use Rattle.run_theorems.specs.Expected.{DigitTold}
use Rattle.run_theorems.specs.Expected.{number_told, expected_told, value_told}
use Rattle.run_theorems.proofs.Expected.{NoDigit, none_written, none_refused}
use Rattle.run_theorems.proofs.Expected.{entered_told}
use Rattle.demands.specs.InC.{in_text, in_presentation}
use Rattle.demands.proofs.Writers.{written_each, digest_each}

-- ---- the calls that read

in_c_told : (o : Outcome) (l : told.Length) → DigitTold o (number_told l) (expected_told l) (value_told l)
    → DigitTold o (in_c l).number (in_c l).expected (in_c l).value
unfolding in_c
in_c_told o (told.written n) h = h
in_c_told o (told.refused why p) h = h

module _ (house : ℕ) (t out : List ℕ) where
  pub text_digit_told : DigitTold (read_text Alone t).outcome (in_text house t out).number (in_text house t out).expected
      (in_text house t out).value
  unfolding read_answer
  text_digit_told = in_c_told (read_text Alone t).outcome _
      (entered_told house (read_text Alone t).kept out (read_text Alone t).outcome (nine_tells Alone t)
      (λ d p e. (digit_told Alone t d p e).2.one_digit))

module _ (house : ℕ) (w out : List ℕ) where
  pub presentation_digit_told : DigitTold (read_presentation w).outcome (in_presentation house w out).number
      (in_presentation house w out).expected (in_presentation house w out).value
  unfolding read_answer
  presentation_digit_told = in_c_told (read_presentation w).outcome _
      (entered_told house (read_presentation w).kept out (read_presentation w).outcome (presentation_nine w) one_digit)
    where
      one_digit : (d p : ℕ) → (read_presentation w).outcome ≡ refused (expecting d) p → d ≤ 9
      one_digit d p e =
          let t = (expected_carried w d p).0 e in
          (digit_told GroupOne (cut w t.held) d t.own t.text_refused).2.one_digit

-- ---- every other call

in_c_none : (l : told.Length) → NoDigit l → (in_c l).expected ≡ 255
unfolding in_c
in_c_none (told.written n) h = h.1
in_c_none (told.refused why p) h = h.1

none_denied : (n q : ℕ) → (n ≡ 0 → ⊥) → (n ≡ 9 → ⊥) → NoDigit (told.refused (by n) q)
none_denied n q some nine = none_refused n q nine

pub written_no_digit : (e out : List ℕ) → (in_c (written_answer e out)).expected ≡ 255
written_no_digit e out = in_c_none (written_answer e out) (written_each NoDigit none_written none_denied e out)

pub digest_no_digit : (input out : List ℕ) → (in_c (digest_answer input out)).expected ≡ 255
digest_no_digit input out = in_c_none (digest_answer input out) (digest_each NoDigit none_written none_denied input out)

pub next_no_digit : (w : List ℕ) (at : ℕ) → (next_in_c (run.read_entry w at).onward).expected ≡ 255
unfolding next_in_c
next_no_digit w at = go (run.read_entry w at).onward refl
  where
    go : (o : run.Onward) → (run.read_entry w at).onward ≡ o → (next_in_c o).expected ≡ 255
    go (run.next n) e = refl
    go run.none e = refl
    go (run.refused k p) e = eighteen k p (refused_here w at k p e).0
      where
        eighteen : (k : Why) (p : ℕ) → run.refused k p ≡ run.refused (by 18) at → (next_in_c (run.refused k p)).expected ≡ 255
        eighteen (by n) p q = refl
        eighteen (expecting d) p q = absurd (let z : ◌≡◌ {A = ℕ} 0 1 = cc in omega arith)

pub look_no_digit : (s : List ℕ) → (count_in_c (look_inside s)).expected ≡ 255
unfolding count_in_c
look_no_digit s = go (look_inside s) refl
  where
    none : (k : Why) (p : ℕ) → tells of_inside k ≡ true → (count_in_c (refusal k p)).expected ≡ 255
    none (by n) p h = refl
    none (expecting d) p h = absurd (false≢true h)

    go : (m : Read ℕ) → look_inside s ≡ m → (count_in_c m).expected ≡ 255
    go (value n) e = refl
    go (refusal k p) e = none k p (look_told s k p e).0
