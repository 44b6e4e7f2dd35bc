-- The expected digit where what was read is entered: with 9 stands the digit that reading worked out, and 255 else.
use Prim.Native.Nat.{ℕ, ◌≤◌}
use mathlib.Core.Path.{◌≡◌, refl, sym}
use mathlib.Core.Bool.{◌&&◌}
use mathlib.Core.List.{List}
use native.Mathlib.Omega.{arith}
use Rattle.refusal.specs.Numbers.{Why, by, expecting, number_of}
use Rattle.refusal.specs.Outcome.{Outcome, passed, refused, unless}
use Rattle.refusal.specs.Length as told
use Rattle.refusal.proofs.Outcomes.{refused_not_passed}
use Rattle.refusal.proofs.Each.{each_unless}
use Rattle.refusal.proofs.Output.{write_each}
use Rattle.zone.specs.declared.record.Record.{Record}
use Rattle.sound.specs.Sound.{is_sound}
use Rattle.entry.specs.Entry.{size, is_house, entry_answer}
use Rattle.entry.specs.Entered.{entered_answer}
use Rattle.run_theorems.specs.Expected.{number_told, expected_told, value_told, DigitTold}

-- not 9, and no digit
abbrev pub NoDigit : told.Length → Type 0
NoDigit l = (number_told l ≡ 9 → ⊥) × (expected_told l ≡ 255)

pub none_written : (n : ℕ) → NoDigit (told.written n)
none_written n = (λ e. omega arith, refl)

pub none_refused : (n p : ℕ) → (n ≡ 9 → ⊥) → NoDigit (told.refused (by n) p)
none_refused n p h = (h, refl)

module _ (house : ℕ) (r : Record) (out : List ℕ) where
  none_entry : NoDigit (entry_answer house r out)
  unfolding entry_answer
  none_entry =
      write_each NoDigit none_written (none_refused 16 0 (λ e. omega arith)) (unless (is_house house && is_sound r) 17 0)
      (each_unless (λ why p. NoDigit (told.refused why p)) (is_house house && is_sound r) 17 0
      (none_refused 17 0 (λ e. omega arith)))
      (size r) out

  -- of a reader whose refusals 9 carry a digit, 0 to 9
  pub entered_told : (o : Outcome) → ((n : Why) (p : ℕ) → o ≡ refused n p → number_of n ≡ 9 → (d : ℕ) × (n ≡ expecting d))
      → ((d p : ℕ) → o ≡ refused (expecting d) p → d ≤ 9)
      → DigitTold o (number_told (entered_answer o house r out)) (expected_told (entered_answer o house r out))
      (value_told (entered_answer o house r out))
  unfolding entered_answer entry_answer
  entered_told passed nine digit = record {
    carried = λ d p e. absurd (refused_not_passed (sym e));
    of_a_digit = λ e. absurd (none_entry.0 e);
    one_digit = λ e. absurd (none_entry.0 e);
    else_none = λ h. none_entry.1;
  }
  entered_told (refused (by n) p) nine digit = record {
    carried = λ d q e. absurd (let z : ◌≡◌ {A = ℕ} 0 1 = cc in omega arith);
    of_a_digit = λ e. absurd (never (nine (by n) p refl e));
    one_digit = λ e. absurd (never (nine (by n) p refl e));
    else_none = λ h. refl;
  }
    where
      never : (d : ℕ) × (by n ≡ expecting d) → ⊥
      never (d, e) = let z : ◌≡◌ {A = ℕ} 0 1 = cc in omega arith
  entered_told (refused (expecting d) p) nine digit = record {
    carried = λ k q e. (refl, cc, cc);
    of_a_digit = λ e. (d, p, refl);
    one_digit = λ e. digit d p refl;
    else_none = λ h. absurd (h refl);
  }
