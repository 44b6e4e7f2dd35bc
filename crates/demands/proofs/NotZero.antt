-- What a C host may rely on of every call: number 0 is never a refusal. (Of `lamphudet_next_entry`: `next_not_zero`; of
-- `lamphudet_look_inside`: `look_not_zero`; of `lamphudet_read_detail`: `detail_not_zero`.)
use Prim.Native.Nat.{ℕ}
use mathlib.Core.Path.{◌≡◌, refl, sym, ◌∙◌}
use mathlib.Core.Logic.{◌↔◌}
use mathlib.Core.Bool.{Bool, true, false}
use mathlib.Core.List.{List}
use native.Mathlib.Omega.{arith}
use lib.ListN.{length}
use Rattle.zone.specs.declared.form.Source.TheVariants.{Alone}
use Rattle.refusal.specs.Numbers.{Why, by}
use Rattle.refusal.specs.Calls.{of_text, of_presentation}
use Rattle.refusal.specs.Length.{Length, written, refused}
use Rattle.refusal.proofs.Outcomes.{refused_not_written}
use Rattle.text.specs.Read.{read_text}
use Rattle.chip.specs.Presentation.{read_presentation}
use Rattle.digest.specs.Answer.{digest_answer}
use Rattle.runs.specs.Run.{read_entry}
use Rattle.border.specs.Answer.{in_c}
use Rattle.as_entry.specs.Written.{is_only, written_answer}
use Rattle.lamphudet.specs.Calls.{read_answer}
use Rattle.as_entry.specs.Opened.{opened_in_c, record_in_c}
use Rattle.text_theorems.proofs.Expected.{text_numbered}
use Rattle.presentation_theorems.proofs.Expected.{presentation_numbered}
use Rattle.run_theorems.proofs.NumbersEntered.{zero_no_refusal}
use Rattle.demands.proofs.NumbersInC.{number_in_c}
use Rattle.demands.proofs.Writers.{written_each, digest_each}
use Rattle.demands.proofs.PresentationRecord.{presentation_sound}
use Rattle.demands.proofs.ReadInC.{text_sound}

-- where this is a refusal, C receives another number than 0
abbrev pub NotZero : Length → Type 0
NotZero l = (why : Why) (p : ℕ) → l ≡ refused why p → (in_c l).number ≡ 0 → ⊥

-- ---- the calls that read

pub read_text_not_zero : (house : ℕ) (t out : List ℕ) → NotZero (read_answer house (read_text Alone t) out)
unfolding read_answer
read_text_not_zero house t out why p denied zero =
    zero_no_refusal house (read_text Alone t).kept out of_text (refl, refl, refl) (read_text Alone t).outcome
    (text_numbered Alone t)
    (text_sound t) why p denied (sym (number_in_c (read_answer house (read_text Alone t) out)) ∙ zero)

pub read_presentation_not_zero : (house : ℕ) (w out : List ℕ) → NotZero (read_answer house (read_presentation w) out)
unfolding read_answer
read_presentation_not_zero house w out why p denied zero =
    zero_no_refusal house (read_presentation w).kept out of_presentation (refl, refl, refl) (read_presentation w).outcome
    (presentation_numbered w) (presentation_sound w) why p denied
    (sym (number_in_c (read_answer house (read_presentation w) out)) ∙ zero)

-- ---- the calls that write

not_written : (n : ℕ) → NotZero (written n)
not_written n why p e zero = refused_not_written (sym e)

not_refused_lem : (n q : ℕ) → (n ≡ 0 → ⊥) → (n ≡ 9 → ⊥) → NotZero (refused (by n) q)
unfolding in_c
not_refused_lem n q some nine why p e zero = some zero

pub write_text_not_zero : (e out : List ℕ) → NotZero (written_answer e out)
write_text_not_zero = written_each NotZero not_written not_refused_lem

pub digest_not_zero : (input out : List ℕ) → NotZero (digest_answer input out)
digest_not_zero = digest_each NotZero not_written not_refused_lem

-- ---- an entry that is opened

-- 0 exactly for exactly one entry
pub open_zero : (e : List ℕ) → ((opened_in_c e).number ≡ 0) ↔ (is_only (read_entry e 0).onward (length e) ≡ true)
unfolding opened_in_c record_in_c
open_zero e = (λ q. go (is_only (read_entry e 0).onward (length e)) refl q, λ h. rw h)
  where
    go : (b : Bool) → is_only (read_entry e 0).onward (length e) ≡ b → (opened_in_c e).number ≡ 0 → b ≡ true
    go true p q = refl
    go false p q =
        let eighteen : (opened_in_c e).number ≡ 18 = rw p in
        absurd (omega (arith, eighteen, q))
