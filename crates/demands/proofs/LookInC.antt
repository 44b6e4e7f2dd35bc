-- What a C host may rely on of `lamphudet_look_inside`: 0 and the number of elements exactly for a whole file (`octets_looked`);
-- a refusal is not 0, and is the first failing check (`look_refused`).
use Prim.Native.Nat.{ℕ}
use mathlib.Core.Path.{◌≡◌, refl, ap, sym, ◌∙◌}
use mathlib.Core.Logic.{◌↔◌}
use mathlib.Core.List.{List}
use Rattle.zone.specs.Octets.{AreOctets}
use Rattle.refusal.specs.Numbers.{Why}
use Rattle.refusal.specs.Calls.{of_inside}
use Rattle.refusal.proofs.Calls.{never_told}
use Rattle.tlv.specs.Read.{Read, value, refusal}
use Rattle.tree.specs.Tree.{Tree, tree_octets, elements}
use Rattle.inside.specs.Inside.{look_inside}
use Rattle.border.specs.declared.received.AnswerInC.{AnswerInC}
use Rattle.border.specs.Answer.{refused_in_c}
use Rattle.border.specs.Calls.{count_in_c}
use Rattle.text_theorems.specs.Ordered.{FirstFailing}
use Rattle.inside_theorems.specs.Whole.{Whole}
use Rattle.inside_theorems.specs.InsideChecks.{inside_checks}
use Rattle.inside_theorems.proofs.Acceptance.{number_exactly}
use Rattle.inside_theorems.proofs.FirstFailing.{inside_refused_exactly}
use Rattle.inside_theorems.proofs.Refusals.{look_told}

module _ (s : List ℕ) where
  abbrev in_look : AnswerInC
  in_look = count_in_c (look_inside s)

  -- the two ways in which an answer is told
  told_count : (n : ℕ) → look_inside s ≡ value n → (in_look.number ≡ 0) × (in_look.value ≡ n)
  unfolding count_in_c
  told_count n e = rw e (refl, refl)

  told_refusal : (why : Why) (p : ℕ) → look_inside s ≡ refusal why p → in_look ≡ refused_in_c why p
  unfolding count_in_c
  told_refusal why p e = rw e

  pub look_not_zero : (why : Why) (p : ℕ) → look_inside s ≡ refusal why p → in_look.number ≡ 0 → ⊥
  look_not_zero why p e zero =
      never_told of_inside why 0 (look_told s why p e).0 refl
      (sym (ap (λ (a : AnswerInC). a.number) (told_refusal why p e)) ∙ zero)

  pub look_zero : (n : ℕ) → ((in_look.number ≡ 0) × (in_look.value ≡ n)) ↔ (look_inside s ≡ value n)
  look_zero n = (λ h. go (look_inside s) refl h.0 h.1, told_count n)
    where
      go : (m : Read ℕ) → look_inside s ≡ m → in_look.number ≡ 0 → in_look.value ≡ n → look_inside s ≡ value n
      go (value k) e a b = e ∙ ap value (sym (told_count k e).1 ∙ b)
      go (refusal why p) e a b = absurd (look_not_zero why p e a)

  pub octets_looked : AreOctets s → (n : ℕ)
      → ((in_look.number ≡ 0) × (in_look.value ≡ n)) ↔ ((t : Tree) × (s ≡ tree_octets t) × Whole t × (n ≡ elements t))
  octets_looked octets n = (
    λ h. (number_exactly s octets n).0 ((look_zero n).0 h),
    λ h. (look_zero n).1 ((number_exactly s octets n).1 h),
  )

  pub look_refused : (why : Why) (p : ℕ) → FirstFailing (inside_checks s) why p → in_look ≡ refused_in_c why p
  look_refused why p h = told_refusal why p ((inside_refused_exactly s why p).1 h)
