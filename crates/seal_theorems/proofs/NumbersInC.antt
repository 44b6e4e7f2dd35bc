-- What a C host may rely on of the numbers of `lamphudet_read_seal`: 0 exactly when the seal keeps every rule, the house is 1 to
-- 32,767 and the range has room, and then the entry of that house and record stands in it; 17 exactly when the seal is accepted
-- and the house is none; 0 is never a refusal; and what two calls with 0 leave is kept apart.
use Prim.Native.Nat.{ℕ}
use mathlib.Core.Path.{◌≡◌, refl, sym, ◌∙◌}
use mathlib.Core.Logic.{◌↔◌}
use mathlib.Core.Bool.{false}
use mathlib.Core.List.{List}
use lib.ListN.{length}
use Rattle.refusal.specs.Numbers.{Why}
use Rattle.refusal.specs.Outcome.{passed}
use Rattle.refusal.specs.Calls.{of_seal, entered}
use Rattle.refusal.proofs.Calls.{told_of}
use Rattle.refusal.specs.Length.{Length, written, refused}
use Rattle.zone.specs.Octets.{AreOctets}
use Rattle.tlv.specs.declared.Stretch.{Stretch}
use Rattle.entry.specs.Entry.{entry_of, is_house}
use Rattle.entry.specs.Entered.{entered_answer}
use Rattle.entry.proofs.Entered.{Enters}
use Rattle.seal_header.specs.declared.header.Header.{Header}
use Rattle.seal.specs.Seal.{read_seal}
use Rattle.lamphudet_seals.specs.declared.received.SealInC.{SealInC}
use Rattle.lamphudet_seals.specs.Answer.{fields_in_c, seal_in_c, read_seal_in_c, read_seal_out}
use Rattle.run_theorems.specs.EveryCall.{AnswersInC}
use Rattle.run_theorems.proofs.EveryCall.{entered_answers, answers_in_c}
use Rattle.run_theorems.specs.Entered.{Allowed, Leaves}
use Rattle.run_theorems.specs.Expected.{number_told, value_told}
use Rattle.run_theorems.proofs.NumbersEntered.{zero_allowed, seventeen_exactly, zero_enters, zero_leaves}
use Rattle.run_theorems.proofs.NumbersEntered.{zero_no_refusal}
use Rattle.seal_theorems.specs.Sealed.{Contents, Sealed, octets_of}
use Rattle.seal_theorems.proofs.Acceptance.{sealed_exactly}
use Rattle.seal_theorems.proofs.Expected.{seal_numbered, seal_within}
use Rattle.seal_theorems.proofs.SealRecord.{seal_sound}

number_in_c : (l : Length) (h : Header) (v : Stretch) → (seal_in_c l h v).number ≡ number_told l
unfolding seal_in_c fields_in_c
number_in_c (written n) h v = refl
number_in_c (refused why p) h v = refl

value_in_c : (l : Length) (h : Header) (v : Stretch) → (seal_in_c l h v).value ≡ value_told l
unfolding seal_in_c fields_in_c
value_in_c (written n) h v = refl
value_in_c (refused why p) h v = refl

module _ (house : ℕ) (s out : List ℕ) where
  abbrev in_seal : SealInC
  in_seal = read_seal_in_c house s out

  abbrev answer : Length
  answer = entered_answer (read_seal s).outcome house (read_seal s).kept out

  -- they are those of the answer
  pub seal_number : in_seal.number ≡ number_told answer
  unfolding read_seal_in_c
  seal_number = number_in_c answer (read_seal s).header (read_seal s).signature

  pub seal_value : in_seal.value ≡ value_told answer
  unfolding read_seal_in_c
  seal_value = value_in_c answer (read_seal s).header (read_seal s).signature

  pub read_seal_exactly : AreOctets s
      → (in_seal.number ≡ 0) ↔ Allowed ((p : Contents) × (s ≡ octets_of p) × Sealed p) house (read_seal s).kept out
  read_seal_exactly small =
      rw seal_number
      (zero_allowed house (read_seal s).kept out of_seal (refl, refl, refl) (read_seal s).outcome (seal_numbered s)
      (seal_sound s) _ (sealed_exactly s small))

  pub read_seal_leaves : in_seal.number ≡ 0
      → Leaves (entry_of house (read_seal s).kept) out in_seal.value (read_seal_out house s out)
  unfolding read_seal_out
  read_seal_leaves =
      rw (seal_number, seal_value)
      (zero_leaves house (read_seal s).kept out of_seal (refl, refl, refl) (read_seal s).outcome (seal_numbered s) (seal_sound s))

  pub read_seal_house : (in_seal.number ≡ 17) ↔ (((read_seal s).outcome ≡ passed) × (is_house house ≡ false))
  read_seal_house =
      rw seal_number
      (seventeen_exactly house (read_seal s).kept out of_seal (refl, refl, refl) (read_seal s).outcome (seal_numbered s)
      (seal_sound s))

  pub read_seal_not_zero : (why : Why) (p : ℕ) → answer ≡ refused why p → in_seal.number ≡ 0 → ⊥
  read_seal_not_zero why p denied zero =
      zero_no_refusal house (read_seal s).kept out of_seal (refl, refl, refl) (read_seal s).outcome (seal_numbered s)
      (seal_sound s) why p denied (sym seal_number ∙ zero)

  -- DEMAND 1: a refusal has one of a seal's numbers, 16 or 17, and a place no further than the end, and leaves every octet; a
  -- success changes the octets that it reports and no others
  pub read_seal_answers : AnswersInC (entered of_seal) (length s) out in_seal.number in_seal.value (read_seal_out house s out)
  unfolding read_seal_out
  read_seal_answers =
      rw (seal_number, seal_value)
      (answers_in_c (entered of_seal) refl (length s) out answer _
      (entered_answers (length s) house (read_seal s).kept out of_seal (read_seal s).outcome
      (λ why p e. (told_of of_seal why (seal_numbered s why p e), seal_within s why p e))))

  -- with 0 what was read is entered
  pub seal_enters : in_seal.number ≡ 0 → Enters (read_seal s).outcome house (read_seal s).kept out
  seal_enters zero = zero_enters house (read_seal s).kept out of_seal (refl, refl, refl) (read_seal s).outcome
      (seal_numbered s) (seal_sound s) (sym seal_number ∙ zero)
