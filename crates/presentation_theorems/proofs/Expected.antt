-- DEMAND 2, the digit of a presentation's refusal 9 (document 02, 2026-07): every refusal 9 carries one, and it is the digit that
-- the presentation's text is refused with. And DEMAND 1: every refusal is by one of a presentation's numbers, at a place no
-- further than the end.
use Prim.Native.Nat.{ℕ, ◌+◌, ◌≤◌}
use mathlib.Core.Path.{◌≡◌, refl, ap, sym, ◌∙◌}
use mathlib.Core.Bool.{true}
use mathlib.Core.List.{List}
use mathlib.Core.Logic.{◌↔◌}
use native.Mathlib.Nat.{le_refl, le_trans}
use native.Mathlib.Omega.{arith}
use lib.ListN.{length}
use Rattle.refusal.specs.Numbers.{Why, by, expecting, number_of}
use Rattle.refusal.specs.Calls.{of_text, of_presentation, tells}
use Rattle.refusal.specs.Outcome.{Outcome, passed, refused}
use Rattle.refusal.proofs.Calls.{tells_within, plain_not_nine}
use Rattle.refusal.proofs.Each.{Each}
use Rattle.zone.specs.declared.form.Source.TheVariants.{GroupOne}
use Rattle.zone.specs.declared.record.Record.{Record}
use Rattle.text.specs.Read.{read_text}
use Rattle.text.proofs.Within.{text_within}
use Rattle.tlv.specs.declared.Stretch.{Stretch}
use Rattle.tlv.specs.Read.{Read, value, refusal, and_then, checked, outcome_in}
use Rattle.tlv.specs.Cut.{cut}
use Rattle.tlv.specs.Versions.{both}
use Rattle.tlv.proofs.Stretches.{cut_within}
use Rattle.tlv.proofs.Each.{EachRead, each_value, each_refusal, each_then}
use Rattle.group_text.specs.Text.{moved, answer_by}
use Rattle.chip.specs.Presentation.{read_stages, read_presentation}
use Rattle.text_theorems.proofs.Expected.{text_numbered}
use Rattle.presentation_theorems.specs.Expected.{text_stretch, FromText}
use Rattle.presentation_theorems.proofs.Refusals.{before_text}
use Rattle.presentation_theorems.proofs.ThroughText.{onwards, through_text, text_stands}

-- what a refusal of a presentation tells
abbrev Carries : List ℕ → Why → ℕ → Type 0
Carries w (by n) q = (tells of_presentation (by n) ≡ true) × (q ≤ length w)
Carries w (expecting d) q = FromText w d q × (q ≤ length w)

-- the text's own refusals stand where the text does
carries : (w : List ℕ) (v : Stretch) → text_stretch w ≡ value v → (n : Why) (p : ℕ)
    → (read_text GroupOne (cut w v)).outcome ≡ refused n p
    → Carries w n (v.from + p)
carries w v at n p e =
    let stood = text_stands w v at in
    let held = cut_within w v (le_trans stood.0 stood.1) in
    go n e (omega (arith, held, text_within GroupOne (cut w v) n p e))
  where
    go : (n : Why) → (read_text GroupOne (cut w v)).outcome ≡ refused n p → v.from + p ≤ length w → Carries w n (v.from + p)
    go (expecting d) e h = (record { held = v; stands = at; own = p; text_refused = e; there = refl }, h)
    go (by n) e h = (tells_within of_text of_presentation refl (by n) (text_numbered GroupOne (cut w v) (by n) p e), h)

moved_each : (P : Why → ℕ → Type 0) (at : ℕ) (o : Outcome) (r : Record)
    → ((n : Why) (p : ℕ) → o ≡ refused n p → P n (at + p))
    → EachRead P (moved at (record { outcome = o; kept = r }))
unfolding moved checked
moved_each P at passed r h = each_value P r
moved_each P at (refused n p) r h = each_refusal P Record n (at + p) (h n p refl)

pub answer_outcome : (m : Read Record) → (answer_by m).outcome ≡ outcome_in m
unfolding answer_by outcome_in
answer_outcome (value r) = refl
answer_outcome (refusal n p) = refl

module _ (w : List ℕ) where
  outcome_through : (read_presentation w).outcome ≡ outcome_in (and_then (text_stretch w) (onwards w))
  unfolding read_presentation
  outcome_through = answer_outcome (read_stages both w) ∙ ap outcome_in (through_text w)

  presentation_carries : Each (Carries w) (read_presentation w).outcome
  unfolding onwards
  presentation_carries n q e =
      each_then (Carries w) (text_stretch w) (onwards w)
      (before_text (Carries w) (length w) (λ n q h k. (h, k)) w (le_refl (length w)))
      (λ v at. moved_each (Carries w) v.from (read_text GroupOne (cut w v)).outcome (read_text GroupOne (cut w v)).kept
      (carries w v at))
      n q (sym outcome_through ∙ e)

  -- refused by 9 with a digit, at a place: exactly where its text is refused by 9 with that digit, there
  pub expected_carried : (d q : ℕ) → ((read_presentation w).outcome ≡ refused (expecting d) q) ↔ FromText w d q
  unfolding onwards and_then moved checked outcome_in
  expected_carried d q = (
    λ e. (presentation_carries (expecting d) q e).0,
    λ t.
        outcome_through
        ∙ (ap (λ (m : Read Stretch). outcome_in (and_then m (onwards w))) t.stands
        ∙ (ap (λ (o : Outcome). outcome_in (moved t.held.from
        (record { outcome = o; kept = (read_text GroupOne (cut w t.held)).kept }))) t.text_refused
        ∙ ap (refused (expecting d)) (sym t.there))),
  )

  -- every refusal has one of a presentation's numbers
  pub presentation_numbered : Each (λ why q. tells of_presentation why ≡ true) (read_presentation w).outcome
  presentation_numbered (expecting d) q e = refl
  presentation_numbered (by n) q e = (presentation_carries (by n) q e).0

  -- at a place no further than the end
  pub presentation_within : Each (λ n q. q ≤ length w) (read_presentation w).outcome
  presentation_within (expecting d) q e = (presentation_carries (expecting d) q e).1
  presentation_within (by n) q e = (presentation_carries (by n) q e).1

  -- and every refusal 9 carries a digit
  pub presentation_nine : (n : Why) (q : ℕ) → (read_presentation w).outcome ≡ refused n q → number_of n ≡ 9
      → (d : ℕ) × (n ≡ expecting d)
  presentation_nine (expecting d) q e h = (d, refl)
  presentation_nine (by n) q e h = absurd (plain_not_nine of_presentation n (presentation_numbered (by n) q e) h)
