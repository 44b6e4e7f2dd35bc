-- What a C host may rely on of `lamphudet_read_detail`: 0 exactly for a list and the elements that it names (`octets_detailed`),
-- with the stretch of the one that is asked for (`detail_stretch`), within the file (`detail_in_range`); a refusal is not 0
-- (`detail_not_zero`), is the first failing check (`detail_refused`), has one of the call's numbers and a place in the file, and
-- no stretch (`detail_answers`), and tells no digit (`detail_no_digit`).
use Prim.Native.Nat.{ℕ, ◌+◌, ◌≤◌}
use mathlib.Core.Path.{◌≡◌, refl, ap, sym, ◌∙◌}
use mathlib.Core.Bool.{true, false≢true}
use mathlib.Core.Logic.{◌↔◌}
use mathlib.Core.List.{List}
use native.Mathlib.Omega.{arith}
use lib.ListN.{length}
use Rattle.zone.specs.Octets.{AreOctets}
use Rattle.refusal.specs.Numbers.{Why, by, expecting}
use Rattle.refusal.specs.Calls.{of_details, is_of, tells}
use Rattle.refusal.proofs.Calls.{never_told, told_of}
use Rattle.tlv.specs.declared.Stretch.{Stretch}
use Rattle.tlv.specs.Read.{Read, value, refusal}
use Rattle.tlv.proofs.Joined.{first_value}
use Rattle.details.specs.Details.{Detail, read_details, value_for, read_detail}
use Rattle.border.specs.declared.received.DetailInC as received
use Rattle.border.specs.Answer.{not_refused, refused_in_c}
use Rattle.border.specs.Calls.{stretch_in_c}
use Rattle.border.specs.Details.{detail_in_c}
use Rattle.text_theorems.specs.Ordered.{FirstFailing}
use Rattle.detail_theorems.specs.Named.{Named, Right, group_octets, stretch_of}
use Rattle.detail_theorems.specs.DetailChecks.{group_checks}
use Rattle.detail_theorems.proofs.Acceptance.{details_exactly, detail_told}
use Rattle.detail_theorems.proofs.FirstFailing.{details_refused_exactly}
use Rattle.detail_theorems.proofs.Refusals.{detail_refusal}
use Rattle.detail_theorems.proofs.Within.{detail_within}

module _ (s : List ℕ) (asked : ℕ) where
  abbrev in_detail : received.DetailInC
  in_detail = detail_in_c (read_detail s asked)

  -- the two ways in which an answer is told
  told_value : (v : Stretch) → read_detail s asked ≡ value v
      → in_detail ≡ record { answer = not_refused 0; stretch = stretch_in_c v }
  unfolding detail_in_c
  told_value v e = rw e

  told_refusal : (why : Why) (p : ℕ) → read_detail s asked ≡ refusal why p
      → in_detail ≡ record { answer = refused_in_c why p; stretch = record { start = 0; length = 0 } }
  unfolding detail_in_c
  told_refusal why p e = rw e

  pub detail_not_zero : (why : Why) (p : ℕ) → read_detail s asked ≡ refusal why p → in_detail.answer.number ≡ 0 → ⊥
  detail_not_zero why p e zero =
      never_told of_details why 0 (detail_refusal s asked why p e).0 refl
      (sym (ap (λ (a : received.DetailInC). a.answer.number) (told_refusal why p e)) ∙ zero)

  pub detail_answers : (in_detail.answer.number ≡ 0 → ⊥)
      → (is_of of_details in_detail.answer.number ≡ true) × (in_detail.answer.value ≤ length s)
      × (in_detail.stretch ≡ record { start = 0; length = 0 })
  unfolding detail_in_c
  detail_answers some = go (read_detail s asked) refl some
    where
      go : (m : Read Stretch) → read_detail s asked ≡ m → ((detail_in_c m).answer.number ≡ 0 → ⊥)
          → (is_of of_details (detail_in_c m).answer.number ≡ true) × ((detail_in_c m).answer.value ≤ length s)
          × ((detail_in_c m).stretch ≡ record { start = 0; length = 0 })
      go (value v) e z = absurd (z refl)
      go (refusal why p) e z = let r = detail_refusal s asked why p e in (told_of of_details why r.0, r.1, refl)

  pub detail_no_digit : in_detail.answer.expected ≡ 255
  unfolding detail_in_c
  detail_no_digit = go (read_detail s asked) refl
    where
      none : (k : Why) (p : ℕ) → tells of_details k ≡ true → (detail_in_c (refusal k p)).answer.expected ≡ 255
      none (by n) p h = refl
      none (expecting d) p h = absurd (false≢true h)

      go : (m : Read Stretch) → read_detail s asked ≡ m → (detail_in_c m).answer.expected ≡ 255
      go (value v) e = refl
      go (refusal k p) e = none k p (detail_refusal s asked k p e).0

  -- what is told with 0, and nothing else, is a stretch in the file
  pub detail_in_range : in_detail.stretch.start + in_detail.stretch.length ≤ length s
  unfolding detail_in_c stretch_in_c
  detail_in_range = go (read_detail s asked) refl
    where
      go : (m : Read Stretch) → read_detail s asked ≡ m
          → (detail_in_c m).stretch.start + (detail_in_c m).stretch.length ≤ length s
      go (value v) e = let w = detail_within s asked v e in omega (arith, w.forward, w.ends)
      go (refusal k p) e = omega arith

  pub octets_detailed : AreOctets s
      → (in_detail.answer.number ≡ 0) ↔ ((ns : List Named) × Right ns × (s ≡ group_octets ns))
  unfolding read_detail
  octets_detailed octets = (
    λ zero. there (read_detail s asked) refl zero,
    λ g. ap (λ (r : received.DetailInC). r.answer.number) (told_value (stretch_of asked g.0)
        (ap (λ (l : List ℕ). read_detail l asked) g.2 ∙ detail_told g.0 g.1 asked)),
  )
    where
      there : (m : Read Stretch) → read_detail s asked ≡ m → in_detail.answer.number ≡ 0
          → (ns : List Named) × Right ns × (s ≡ group_octets ns)
      there (value v) e zero =
          let a = first_value (read_details s) (λ (ds : List Detail). value (value_for asked ds)) v e in
          (details_exactly s octets).0 (a.0, a.1)
      there (refusal why p) e zero = absurd (detail_not_zero why p e zero)

  pub detail_refused : (why : Why) (p : ℕ) → FirstFailing (group_checks s) why p
      → in_detail ≡ record { answer = refused_in_c why p; stretch = record { start = 0; length = 0 } }
  detail_refused why p h = told_refusal why p ((details_refused_exactly s asked why p).1 h)

-- of a list and its elements, where the one stands that is asked for
pub detail_stretch : (ns : List Named) → Right ns → (asked : ℕ)
    → detail_in_c (read_detail (group_octets ns) asked)
    ≡ record { answer = not_refused 0; stretch = stretch_in_c (stretch_of asked ns) }
detail_stretch ns right asked = told_value (group_octets ns) asked (stretch_of asked ns) (detail_told ns right asked)
