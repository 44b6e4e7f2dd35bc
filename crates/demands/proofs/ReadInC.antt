-- What a C host may rely on of `lamphudet_read_text` and `lamphudet_read_presentation`: 0 exactly when what was lent keeps the
-- rules, the house is 1 to 32,767 and the range has room, and then the entry of that house and record stands in it; 17 exactly
-- when what was lent is accepted and the house is none.
use Prim.Native.Nat.{ℕ}
use mathlib.Core.Path.{◌≡◌, refl}
use mathlib.Core.Logic.{◌↔◌}
use mathlib.Core.Bool.{true, false}
use mathlib.Core.List.{List}
use Rattle.refusal.specs.Calls.{of_text, of_presentation}
use Rattle.refusal.specs.Outcome.{passed}
use Rattle.zone.specs.declared.form.Source.TheVariants.{Alone}
use Rattle.zone.specs.Form.{may_stand}
use Rattle.zone.specs.declared.form.Form.{Form}
use Rattle.zone.specs.Octets.{AreOctets}
use Rattle.sound.specs.Sound.{is_sound}
use Rattle.text.specs.Read.{read_text}
use Rattle.chip.specs.Presentation.{read_presentation}
use Rattle.entry.specs.Entry.{entry_of, is_house}
use Rattle.lamphudet.specs.Calls.{read_answer, read_out}
use Rattle.text_theorems.specs.Accepted.{Keeps}
use Rattle.text_theorems.proofs.Acceptance.{accepted_exactly}
use Rattle.text_theorems.proofs.Expected.{text_numbered}
use Rattle.text_theorems.proofs.RecordOfText.{kept_and_sound}
use Rattle.presentation_theorems.specs.Presented.{Contents, Presented, octets_of}
use Rattle.presentation_theorems.proofs.Acceptance.{presented_exactly}
use Rattle.presentation_theorems.proofs.Expected.{presentation_numbered}
use Rattle.run_theorems.specs.Entered.{Allowed, Leaves}
use Rattle.run_theorems.proofs.NumbersEntered.{zero_allowed, seventeen_exactly, zero_leaves}
use Rattle.demands.specs.InC.{in_text, in_presentation}
use Rattle.demands.proofs.NumbersInC.{number_in_c, value_in_c}
use Rattle.demands.proofs.PresentationRecord.{presentation_sound}

pub text_sound : (t : List ℕ) → (read_text Alone t).outcome ≡ passed → is_sound (read_text Alone t).kept ≡ true
text_sound t e = (kept_and_sound Alone t e).3

module _ (house : ℕ) (t out : List ℕ) where
  pub read_text_exactly : ((in_text house t out).number ≡ 0)
      ↔ Allowed ((f : Form) × (may_stand Alone f ≡ true) × Keeps f t) house (read_text Alone t).kept out
  unfolding read_answer
  read_text_exactly =
      rw (number_in_c (read_answer house (read_text Alone t) out))
      (zero_allowed house (read_text Alone t).kept out of_text (refl, refl, refl) (read_text Alone t).outcome
      (text_numbered Alone t)
      (text_sound t) _ (accepted_exactly Alone t))

  pub read_text_leaves : (in_text house t out).number ≡ 0
      → Leaves (entry_of house (read_text Alone t).kept) out (in_text house t out).value (read_out house (read_text Alone t) out)
  unfolding read_answer read_out
  read_text_leaves =
      rw (number_in_c (read_answer house (read_text Alone t) out), value_in_c (read_answer house (read_text Alone t) out))
      (zero_leaves house (read_text Alone t).kept out of_text (refl, refl, refl) (read_text Alone t).outcome
      (text_numbered Alone t) (text_sound t))

  pub read_text_house : ((in_text house t out).number ≡ 17) ↔ (((read_text Alone t).outcome ≡ passed) × (is_house house ≡ false))
  unfolding read_answer
  read_text_house =
      rw (number_in_c (read_answer house (read_text Alone t) out))
      (seventeen_exactly house (read_text Alone t).kept out of_text (refl, refl, refl) (read_text Alone t).outcome
      (text_numbered Alone t)
      (text_sound t))

module _ (house : ℕ) (w out : List ℕ) where
  pub octets_read_exactly : AreOctets w
      → ((in_presentation house w out).number ≡ 0)
      ↔ Allowed ((p : Contents) × (w ≡ octets_of p) × Presented p) house (read_presentation w).kept out
  unfolding read_answer
  octets_read_exactly small =
      rw (number_in_c (read_answer house (read_presentation w) out))
      (zero_allowed house (read_presentation w).kept out of_presentation (refl, refl, refl)
      (read_presentation w).outcome (presentation_numbered w) (presentation_sound w) _ (presented_exactly w small))

  pub read_presentation_leaves : (in_presentation house w out).number ≡ 0
      → Leaves (entry_of house (read_presentation w).kept) out (in_presentation house w out).value
      (read_out house (read_presentation w) out)
  unfolding read_answer read_out
  read_presentation_leaves =
      rw (number_in_c (read_answer house (read_presentation w) out), value_in_c (read_answer house (read_presentation w) out))
      (zero_leaves house (read_presentation w).kept out of_presentation (refl, refl, refl)
      (read_presentation w).outcome (presentation_numbered w) (presentation_sound w))

  pub read_presentation_house : ((in_presentation house w out).number ≡ 17)
      ↔ (((read_presentation w).outcome ≡ passed) × (is_house house ≡ false))
  unfolding read_answer
  read_presentation_house =
      rw (number_in_c (read_answer house (read_presentation w) out))
      (seventeen_exactly house (read_presentation w).kept out of_presentation (refl, refl, refl)
      (read_presentation w).outcome (presentation_numbered w) (presentation_sound w))
