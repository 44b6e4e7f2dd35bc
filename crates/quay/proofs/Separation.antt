-- SEPARATION over every mixture of calls that write an entry, of a text, a presentation or a seal: what two that answer 0 leave
-- begins with the same thirty octets exactly when house, form, state, whole number, birth and expiry agree (`calls_apart`), so
-- for two houses never (`houses_never_meet`); and what one leaves is read as its own house's wherever it stands (`own_entry`).
use Prim.Native.Nat.{ℕ, ◌+◌}
use mathlib.Core.Path.{◌≡◌, refl, sym, ◌∙◌}
use mathlib.Core.Logic.{◌↔◌}
use mathlib.Core.List.{List, ◌++◌}
use lib.ListN.{length, take, drop}
use lib.Seq.{take-append_seam}
use Rattle.zone.specs.declared.form.Source.TheVariants.{Alone}
use Rattle.refusal.specs.Calls.{of_text, of_presentation}
use Rattle.text.specs.Read.{read_text}
use Rattle.chip.specs.Presentation.{read_presentation}
use Rattle.entry.specs.Entry.{entry_of}
use Rattle.entry.specs.Entered.{entered_out}
use Rattle.entry.proofs.Entered.{Enters}
use Rattle.runs.specs.Run.{next, read_entry}
use Rattle.lamphudet.specs.Calls.{read_answer, read_out}
use Rattle.lamphudet_seals.specs.Answer.{read_seal_out}
use Rattle.text_theorems.proofs.Expected.{text_numbered}
use Rattle.presentation_theorems.proofs.Expected.{presentation_numbered}
use Rattle.run_theorems.specs.Entered.{Leaves}
use Rattle.run_theorems.specs.Keys.{SameKey}
use Rattle.run_theorems.proofs.NumbersEntered.{zero_enters}
use Rattle.run_theorems.proofs.Separation.{entries_apart}
use Rattle.run_theorems.proofs.WrittenThenRead.{read_back}
use Rattle.demands.proofs.NumbersInC.{number_in_c}
use Rattle.demands.proofs.PresentationRecord.{presentation_sound}
use Rattle.demands.proofs.ReadInC.{text_sound, read_text_leaves, read_presentation_leaves}
use Rattle.seal_theorems.proofs.NumbersInC.{seal_enters, read_seal_leaves}
use Rattle.quay.specs.Shown.{Shown, text, presentation, seal, answered, Call, number_of, value_of, left_of}
use Rattle.quay.specs.Shown.{number, left, kept_of, record_of}

-- ---- one call

-- with 0 what was shown is entered
enters : (h : ℕ) (x : Shown) (out : List ℕ) → number_of h x out ≡ 0 → Enters (answered x).outcome h (answered x).kept out
unfolding answered read_answer
enters h (text t) out zero =
    zero_enters h (read_text Alone t).kept out of_text (refl, refl, refl) (read_text Alone t).outcome (text_numbered Alone t)
    (text_sound t) (sym (number_in_c (read_answer h (read_text Alone t) out)) ∙ zero)
enters h (presentation w) out zero =
    zero_enters h (read_presentation w).kept out of_presentation (refl, refl, refl) (read_presentation w).outcome
    (presentation_numbered w) (presentation_sound w) (sym (number_in_c (read_answer h (read_presentation w) out)) ∙ zero)
enters h (seal s) out zero = seal_enters h s out zero

same_left : (h : ℕ) (x : Shown) (out : List ℕ) → left_of h x out ≡ entered_out (answered x).outcome h (answered x).kept out
unfolding answered read_out read_seal_out
same_left h (text t) out = refl
same_left h (presentation w) out = refl
same_left h (seal s) out = refl

leaves : (h : ℕ) (x : Shown) (out : List ℕ) → number_of h x out ≡ 0
    → Leaves (entry_of h (answered x).kept) out (value_of h x out) (left_of h x out)
unfolding answered
leaves h (text t) out zero = read_text_leaves h t out zero
leaves h (presentation w) out zero = read_presentation_leaves h w out zero
leaves h (seal s) out zero = read_seal_leaves h s out zero

module _ (c : Call) (zero : number c ≡ 0) where
  pub call_enters : Enters (answered c.shown).outcome c.house (record_of c) c.range
  unfolding number record_of
  call_enters = enters c.house c.shown c.range zero

  -- what the host keeps is the entry of the call's house and of the record that was read
  pub kept_entry : kept_of c ≡ entry_of c.house (record_of c)
  unfolding kept_of number left record_of
  kept_entry =
      let l = leaves c.house c.shown c.range zero in
      let e = entry_of c.house (answered c.shown).kept in
      rw (l.told, l.in_front) (take-append_seam e (drop (length e) c.range))

  -- and wherever that stands, whatever is before and behind it, it is read as that house's, and so never as another's
  pub own_entry : (front rest : List ℕ)
      → read_entry (front ++ (kept_of c ++ rest)) (length front)
      ≡ record { onward = next (length front + length (kept_of c)); house = c.house; kept = record_of c }
  own_entry front rest =
      let h = call_enters in
      rw kept_entry (read_back c.house (record_of c) h.housed h.sound front rest)

-- ---- two calls

module _ (c d : Call) (zero : number c ≡ 0) (also : number d ≡ 0) where
  pub calls_apart : (take 30 (left c) ≡ take 30 (left d)) ↔ SameKey c.house (record_of c) d.house (record_of d)
  unfolding left record_of
  calls_apart =
      rw (same_left c.house c.shown c.range, same_left d.house d.shown d.range)
      (entries_apart c.house d.house (answered c.shown).outcome (answered d.shown).outcome
      (answered c.shown).kept (answered d.shown).kept c.range d.range (call_enters c zero) (call_enters d also))

  pub houses_never_meet : (c.house ≡ d.house → ⊥) → take 30 (left c) ≡ take 30 (left d) → ⊥
  houses_never_meet other e = other (calls_apart.0 e).same_house
