-- DEMAND 2, the other way: a file of group 11 is refused exactly by the first of its checks that fails
-- (`details_refused_exactly`).
use Prim.Native.Nat.{ℕ, ◌≤◌, ◌<◌}
use mathlib.Core.Path.{◌≡◌, refl, ap, sym, ◌∙◌}
use mathlib.Core.Bool.{Bool, true, false, cond}
use mathlib.Core.List.{List, [], ◌∷◌, map}
use mathlib.Core.Logic.{◌↔◌}
use native.Mathlib.Omega.{arith}
use lib.Dec.{eqb}
use lib.ListN.{length}
use Rattle.refusal.specs.Numbers.{Why, by}
use Rattle.refusal.specs.Outcome.{Outcome, passed, unless}
use Rattle.tlv.specs.declared.Stretch.{Stretch}
use Rattle.tlv.specs.Read.{Read, value, refusal, checked, outcome_in}
use Rattle.tlv.specs.Cut.{cut, end_check}
use Rattle.tlv.specs.Places.{places}
use Rattle.tlv.specs.Tags.{tag_list}
use Rattle.tlv.proofs.Joined.{told_then, refusal_told}
use Rattle.details.specs.Tags.{group_tag, stands_for, tag_here, is_detail, tags_in}
use Rattle.details.specs.Details.{Detail, detail_at, details_from, details, is_list, agrees, read_details, value_for, read_detail}
use Rattle.text_theorems.specs.Ordered.{FirstFailing}
use Rattle.text_theorems.proofs.FirstOf.{first_of, first_failing, failing_first}
use Rattle.row_theorems.specs.Standing.{coded, each}
use Rattle.row_theorems.proofs.Rows.{under, under_outcome, under_first, last_of}
use Rattle.row_theorems.proofs.Rows.{last_passed, goes_on, keep, rows_then, step_known}
use Rattle.row_theorems.proofs.Rows.{element_row, element_then, coded_within}
use Rattle.row_theorems.proofs.Places.{places_rows}
use Rattle.detail_theorems.specs.DetailChecks.{file_here, up_to, list_here, value_here, element_places}
use Rattle.detail_theorems.specs.DetailChecks.{element_checks, turn_checks, group_checks}

-- ---- the elements

element_rows : (s : List ℕ) (at : ℕ) → detail_at s at ≡ under (element_checks s at) (value (value_here s at))
unfolding detail_at element_checks under checked
element_rows s at = go (is_detail s at) (element_row s at (tag_here s at))
  where
    go : (b : Bool) {m n : Read Stretch} → m ≡ n → cond b m (refusal (by 10) at) ≡ checked (unless b 10 at) n
    go true e = e
    go false e = refl

element_ends : (s : List ℕ) (at : ℕ) → first_of (element_checks s at) ≡ passed
    → (at < (value_here s at).to) × ((value_here s at).to ≤ length s) × ((value_here s at).to ≡ (value_here s at).to)
unfolding element_checks last_of
element_ends s at e =
    let within = coded_within s at (tag_here s at) (last_passed (element_checks s at) e) in
    (omega (arith, within.0, within.1), within.2, refl)

-- as it is read at a place
abbrev read : List ℕ → ℕ → Detail
read s at = record { tag = tag_here s at; at = at; held = value_here s at }

elements_rows : (s : List ℕ) (at : ℕ)
    → let ps = places (λ p. (value_here s p).to) (length s) at in
    details s at ≡ under (each (element_checks s) ps) (value (map (read s) ps))
unfolding details details_from
elements_rows s at =
    places_rows (length s) (detail_at s) (element_checks s) (value_here s) (λ v. v.to) (λ p. (value_here s p).to)
    (λ p v. record { tag = tag_here s p; at = p; held = v }) (λ k p. details_from k s p) (λ k p. refl) (element_rows s)
    (element_ends s) at

-- ---- list and elements

turn_rows : (ts ps : List ℕ) (end : ℕ) (s : List ℕ) → agrees end ts (map (read s) ps) ≡ first_of (turn_checks end s ts ps)
unfolding agrees turn_checks first_of
turn_rows [] [] end s = refl
turn_rows [] (p ∷ ps) end s = refl
turn_rows (t ∷ ts) [] end s = refl
turn_rows (t ∷ ts) (p ∷ ps) end s =
    rw (turn_rows ts ps end s)
    (goes_on (eqb (tag_here s p) (stands_for t)) 20 p (first_of (turn_checks end s ts ps)))

-- ---- a file

module _ (s : List ℕ) where
  abbrev ps : List ℕ
  ps = element_places s

  abbrev tags : List ℕ
  tags = tags_in (cut s (list_here s))

  abbrev all : List Detail
  all = map (read (up_to s)) ps

  -- what is asked behind the elements
  behind_rows : checked (end_check s (file_here s).to) (checked (unless (is_list (cut s (list_here s))) 20 (file_here s).from)
      (checked (agrees (length s) tags all) (value all)))
      ≡ under (unless (eqb (file_here s).to (length s)) 10 (file_here s).to
      ∷ unless (is_list (cut s (list_here s))) 20 (file_here s).from
      ∷ turn_checks (length s) (up_to s) tags ps) (value all)
  unfolding under end_check
  behind_rows =
      keep (unless (eqb (file_here s).to (length s)) 10 (file_here s).to)
      (keep (unless (is_list (cut s (list_here s))) 20 (file_here s).from)
      (ap (λ (o : Outcome). checked o (value all)) (turn_rows tags ps (length s) (up_to s))
      ∙ under_first (turn_checks (length s) (up_to s) tags ps) (value all)))

  file_rows : read_details s ≡ under (group_checks s) (value all)
  unfolding read_details group_checks under
  file_rows =
      element_then s 0 group_tag _
      ∙ keep (coded s 0 group_tag) (element_then (up_to s) (file_here s).from tag_list _
      ∙ keep (coded (up_to s) (file_here s).from tag_list)
      (step_known (each (element_checks (up_to s)) ps) (details (up_to s) (list_here s).to) all _
      (elements_rows (up_to s) (list_here s).to)
      ∙ rows_then (each (element_checks (up_to s)) ps) _ _ (value all) behind_rows))

  pub detail_first : (asked : ℕ) → outcome_in (read_detail s asked) ≡ first_of (group_checks s)
  unfolding read_detail
  detail_first asked =
      told_then (read_details s) (value_for asked) ∙ (ap outcome_in file_rows ∙ under_outcome (group_checks s) all)

  pub details_refused_exactly : (asked : ℕ) (n : Why) (p : ℕ)
      → (read_detail s asked ≡ refusal n p) ↔ FirstFailing (group_checks s) n p
  unfolding outcome_in
  details_refused_exactly asked n p = (
    λ e. first_failing (group_checks s) n p (sym (detail_first asked) ∙ ap outcome_in e),
    λ h. refusal_told (read_detail s asked) n p (detail_first asked ∙ failing_first (group_checks s) n p h),
  )
