-- What a C host may rely on of `lamphudet_look_over`: 0 and the number of entries exactly for a list whose keys rise
-- (`octets_counted`). DEMAND 1: another number is 18 or 23 at a place before the list's end (`list_answers`), no refusal is told
-- by 0 (`list_not_zero`), what is given with it (`list_gives`), and no digit (`list_no_digit`).
use Prim.Native.Nat.{ℕ, ◌<◌}
use mathlib.Core.Path.{◌≡◌, refl, ap, sym, ◌∙◌}
use mathlib.Core.Logic.{◌↔◌}
use mathlib.Core.Bool.{true, false≢true}
use mathlib.Core.List.{List, ◌++◌}
use native.Mathlib.Omega.{arith}
use lib.ListN.{length}
use Rattle.lent.specs.Octets.{octets}
use Rattle.zone.specs.declared.form.Source.TheVariants.{Alone}
use Rattle.zone.specs.Octets.{AreOctets}
use Rattle.refusal.specs.Numbers.{Why, by, expecting}
use Rattle.refusal.specs.Calls.{of_list, is_of, tells}
use Rattle.refusal.proofs.Calls.{told_of, never_told}
use Rattle.tlv.specs.Read.{Read, value, refusal}
use Rattle.text.specs.Read.{read_text}
use Rattle.entry.specs.Entry.{entry_of, is_house}
use Rattle.nightly.specs.List.{look_over}
use Rattle.border.specs.declared.received.AnswerInC.{AnswerInC}
use Rattle.border.specs.Answer.{refused_in_c}
use Rattle.border.specs.Calls.{count_in_c}
use Rattle.run_theorems.specs.Runs.{Line, joined}
use Rattle.nightly_theorems.specs.Listed.{InOrder, Fails}
use Rattle.nightly_theorems.proofs.Acceptance.{count_exactly, fails_refused}
use Rattle.nightly_theorems.proofs.Refusals.{list_told}
use Rattle.nightly_theorems.proofs.NotEmpty.{two_accepted}
use Rattle.demands.specs.Examples.{T3}
use Rattle.demands.specs.Given.{count_given, Gives}
use Rattle.demands.proofs.NotEmpty.{T3-sound}

module _ (w : List ℕ) where
  abbrev in_list : AnswerInC
  in_list = count_in_c (look_over w)

  -- the two ways in which an answer is told
  told_count : (n : ℕ) → look_over w ≡ value n → (in_list.number ≡ 0) × (in_list.value ≡ n)
  unfolding count_in_c
  told_count n e = rw e (refl, refl)

  told_refusal : (why : Why) (p : ℕ) → look_over w ≡ refusal why p → in_list ≡ refused_in_c why p
  unfolding count_in_c
  told_refusal why p e = rw e

  pub list_not_zero : (why : Why) (p : ℕ) → look_over w ≡ refusal why p → in_list.number ≡ 0 → ⊥
  list_not_zero why p e zero =
      never_told of_list why 0 (list_told w why p e).0 refl
      (sym (ap (λ (a : AnswerInC). a.number) (told_refusal why p e)) ∙ zero)

  -- 0 exactly where there is a number of entries
  pub list_zero : (n : ℕ) → ((in_list.number ≡ 0) × (in_list.value ≡ n)) ↔ (look_over w ≡ value n)
  list_zero n = (λ h. go (look_over w) refl h.0 h.1, told_count n)
    where
      go : (m : Read ℕ) → look_over w ≡ m → in_list.number ≡ 0 → in_list.value ≡ n → look_over w ≡ value n
      go (value k) e a b = e ∙ ap value (sym (told_count k e).1 ∙ b)
      go (refusal why p) e a b = absurd (list_not_zero why p e a)

  pub octets_counted : AreOctets w → (n : ℕ)
      → ((in_list.number ≡ 0) × (in_list.value ≡ n))
      ↔ ((ls : List Line) × InOrder ls × (w ≡ joined ls) × (n ≡ length ls))
  octets_counted small n = (
    λ h. (count_exactly w small n).0 ((list_zero n).0 h),
    λ h. (list_zero n).1 ((count_exactly w small n).1 h),
  )

  pub list_refused : AreOctets w → (why : Why) (p : ℕ) → Fails w why p → in_list ≡ refused_in_c why p
  list_refused small why p h = told_refusal why p (fails_refused w small why p h)

  -- 0, or one of the call's numbers at a place before the list's end
  pub list_answers : (in_list.number ≡ 0 → ⊥) → (is_of of_list in_list.number ≡ true) × (in_list.value < length w)
  unfolding count_in_c
  list_answers some = go (look_over w) refl some
    where
      go : (m : Read ℕ) → look_over w ≡ m → ((count_in_c m).number ≡ 0 → ⊥)
          → (is_of of_list (count_in_c m).number ≡ true) × ((count_in_c m).value < length w)
      go (value n) e z = absurd (z refl)
      go (refusal why p) e z = let r = list_told w why p e in (told_of of_list why r.0, r.1)

  pub list_gives : Gives (λ p. (why : Why) × (look_over w ≡ refusal why p)) (count_given (look_over w)) in_list.number
      in_list.value
  unfolding count_in_c
  list_gives = go (look_over w) list_not_zero
    where
      go : (m : Read ℕ) → ((why : Why) (p : ℕ) → m ≡ refusal why p → (count_in_c m).number ≡ 0 → ⊥)
          → Gives (λ p. (why : Why) × (m ≡ refusal why p)) (count_given m) (count_in_c m).number (count_in_c m).value
      go (value n) some = record { when_zero = λ zero. refl; when_refused = λ p x. absurd (some x.0 p x.1 refl) }
      go (refusal why q) some = record {
        when_zero = λ zero. absurd (some why q refl zero);
        when_refused = λ p x. let same : q ≡ p = let e = x.1 in cc in (refl, same);
      }

  pub list_no_digit : in_list.expected ≡ 255
  unfolding count_in_c
  list_no_digit = go (look_over w) refl
    where
      plain : (k : Why) (p : ℕ) → tells of_list k ≡ true → (count_in_c (refusal k p)).expected ≡ 255
      plain (by n) p h = refl
      plain (expecting d) p h = absurd (false≢true h)

      go : (m : Read ℕ) → look_over w ≡ m → (count_in_c m).expected ≡ 255
      go (value n) e = refl
      go (refusal k p) e = plain k p (list_told w k p e).0

-- something is accepted: document 01's T3 under the houses 1 and 2
pub T3-listed : look_over (entry_of 1 (read_text Alone (octets T3)).kept ++ entry_of 2 (read_text Alone (octets T3)).kept)
    ≡ value 2
unfolding is_house
T3-listed = two_accepted (read_text Alone (octets T3)).kept T3-sound 1 2 refl refl (omega arith)
