-- DEMAND 1: every refusal is by 10 or 20, at a place no further than the file's end (`detail_refusal`).
use Prim.Native.Nat.{ℕ, zero, suc, ◌≤◌}
use mathlib.Core.Path.{◌≡◌, refl, ap}
use mathlib.Core.Bool.{true}
use mathlib.Core.List.{List, [], ◌∷◌}
use native.Mathlib.Omega.{arith}
use lib.Dec.{eqb, leb}
use lib.ListN.{length, take}
use lib.Seq.{length-take-le}
use Rattle.lent.proofs.Bools.{either_way}
use Rattle.refusal.specs.Numbers.{Why, by}
use Rattle.refusal.specs.Calls.{of_details, tells}
use Rattle.refusal.specs.Outcome.{unless}
use Rattle.refusal.proofs.Each.{Each, each_passed, each_refused, each_unless}
use Rattle.tlv.specs.declared.Stretch.{Stretch}
use Rattle.tlv.specs.Read.{value, refusal, checked, outcome_in}
use Rattle.tlv.specs.Element.{element}
use Rattle.tlv.specs.Cut.{cut, end_check}
use Rattle.tlv.specs.Tags.{tag_list}
use Rattle.tlv.proofs.Past.{value_within}
use Rattle.tlv.proofs.Each.{EachRead, each_value, each_refusal, each_then, each_checked, each_element, each_end}
use Rattle.details.specs.Tags.{group_tag, stands_for, tag_here, is_detail, tags_in}
use Rattle.details.specs.Details.{Detail, detail_at, details_from, details, is_list, agrees, read_details, value_for, read_detail}
use Rattle.details.proofs.Walked.{detail_behind}
use Rattle.details.proofs.SideBySide.{walk_cases}

-- what a refusal has: one of the call's numbers, and a place no further than an end
abbrev ToldTo : (end : ℕ) → Why → ℕ → Type 0
ToldTo end why p = (tells of_details why ≡ true) × (p ≤ end)

-- ---- the elements, within what holds them

module _ (end : ℕ) (s : List ℕ) (within : length s ≤ end) where
  abbrev P : Why → ℕ → Type 0
  P = ToldTo end

  element_told : (at : ℕ) → at ≤ length s → EachRead P (detail_at s at)
  unfolding detail_at
  element_told at h =
      either_way (EachRead P) (is_detail s at) _ _
      (each_element P s at (tag_here s at) (refl, omega (arith, h, within)))
      (each_refusal P Stretch (by 10) at (refl, omega (arith, h, within)))

  elements_told : (k at : ℕ) → at ≤ length s → EachRead P (details_from k s at)
  unfolding details_from
  elements_told zero at h = each_refusal P (List Detail) (by 10) at (refl, omega (arith, h, within))
  elements_told (suc k) at h =
      either_way (EachRead P) (leb (length s) at) _ _
      (each_value P [])
      (each_then P (detail_at s at) _ (element_told at h) (λ v e.
      each_then P (details_from k s v.to) _ (elements_told k v.to (detail_behind s at v e).1)
      (λ rest q. each_value P (record { tag = tag_here s at; at = at; held = v } ∷ rest))))

  -- what is told of list and elements is told at one of these, or at the end
  agree_told : (ts : List ℕ) (at : ℕ) (ds : List Detail) → details s at ≡ value ds → Each P (agrees end ts ds)
  unfolding agrees
  agree_told [] at ds e = walk_cases s at ds e
      (λ h z. rw z (each_passed P))
      (λ v rest h d r z. rw z (each_refused P (by 20) at (refl, omega (arith, h, within))))
  agree_told (t ∷ ts) at ds e = walk_cases s at ds e
      (λ h z. rw z (each_refused P (by 20) end (refl, omega arith)))
      (λ v rest h d r z. rw z (either_way (Each P) (eqb (tag_here s at) (stands_for t)) _ _ (agree_told ts v.to rest r)
      (each_refused P (by 20) at (refl, omega (arith, h, within)))))

-- ---- a file

module _ (s : List ℕ) where
  abbrev Told : Why → ℕ → Type 0
  Told = ToldTo (length s)

  behind_list_lem : (v list : Stretch) → v.from ≤ v.to → v.to ≤ length s
      → element (take v.to s) v.from tag_list ≡ value list
      → (ds : List Detail) → details (take v.to s) list.to ≡ value ds → EachRead Told (checked (end_check s v.to)
      (checked (unless (is_list (cut s list)) 20 v.from)
      (checked (agrees (length s) (tags_in (cut s list)) ds) (value ds))))
  behind_list_lem v list forward low el ds ed =
      let long = length-take-le v.to s low in
      each_checked Told (end_check s v.to) _ (each_end Told s v.to (refl, low))
      (each_checked Told (unless (is_list (cut s list)) 20 v.from) _
      (each_unless Told (is_list (cut s list)) 20 v.from (refl, omega (arith, forward, low)))
      (each_checked Told (agrees (length s) (tags_in (cut s list)) ds) (value ds)
      (agree_told (length s) (take v.to s) (omega (arith, long, low)) (tags_in (cut s list)) list.to ds ed)
      (each_value Told ds)))

  read_told : EachRead Told (read_details s)
  unfolding read_details details
  read_told =
      each_then Told (element s 0 group_tag) _ (each_element Told s 0 group_tag (refl, omega arith)) (λ v e.
      let w = value_within s 0 group_tag v e in
      let inner = take v.to s in
      let long = length-take-le v.to s w.2 in
      each_then Told (element inner v.from tag_list) _
      (each_element Told inner v.from tag_list (refl, omega (arith, w.1, w.2))) (λ list f.
      each_then Told (details inner list.to) _
      (elements_told (length s) inner (omega (arith, long, w.2)) (suc (length inner)) list.to
      (value_within inner v.from tag_list list f).2)
      (λ ds g. behind_list_lem v list w.1 w.2 f ds g)))

  pub detail_refusal : (asked : ℕ) (why : Why) (p : ℕ) → read_detail s asked ≡ refusal why p
      → (tells of_details why ≡ true) × (p ≤ length s)
  unfolding read_detail outcome_in
  detail_refusal asked why p e =
      each_then Told (read_details s) _ read_told (λ ds g. each_value Told (value_for asked ds)) why p (ap outcome_in e)
