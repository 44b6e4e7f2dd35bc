-- Stage 6 as rows: group 1 is one row, and reading what it holds is its checks and those of the text, each at its place in the
-- presentation, before the text's record.
use Prim.Native.Nat.{ℕ}
use mathlib.Core.Path.{◌≡◌, refl, ap, sym, ◌∙◌}
use mathlib.Core.Bool.{Bool, true, false, cond, ◌||◌}
use mathlib.Core.List.{List, [], ◌∷◌, map}
use lib.Dec.{eqb}
use lib.ListN.{length, take, get_or}
use Rattle.refusal.specs.Outcome.{Outcome, passed, refused, unless}
use Rattle.zone.specs.declared.form.Source.TheVariants.{GroupOne}
use Rattle.zone.specs.declared.record.Record.{Record}
use Rattle.lent.specs.Octets.{stands}
use Rattle.text.specs.Read.{read_text}
use Rattle.tlv.specs.Read.{Read, value, checked}
use Rattle.tlv.specs.Cut.{cut, end_check}
use Rattle.tlv.specs.Tags.{group_of}
use Rattle.tlv.specs.Tags as Tag
use Rattle.group_text.specs.Text.{moved_to, moved, text_at}
use Rattle.chip.specs.Presentation.{first_file, group_one}
use Rattle.text_theorems.specs.Ordered.{checks_of}
use Rattle.text_theorems.proofs.FirstFailing.{read_first}
use Rattle.text_theorems.proofs.FirstOf.{first_of}
use Rattle.tlv.specs.Places.{stretch_at}
use Rattle.row_theorems.specs.Standing.{coded}
use Rattle.presentation_theorems.specs.PresentationChecks.{lent_file, text_checks, group_one_place, group_one_checks}
use Rattle.presentation_theorems.proofs.Elements.{same_test}
use Rattle.presentation_theorems.proofs.GroupOne.{one_tag, tag_one}
use Rattle.row_theorems.proofs.Rows.{under, under_first, keep, step_known, element_then}

-- ---- the text

first_moved : (at : ℕ) (os : List Outcome) → moved_to at (first_of os) ≡ first_of (map (moved_to at) os)
unfolding first_of
first_moved at [] = refl
first_moved at (passed ∷ os) = first_moved at os
first_moved at (refused n p ∷ os) = refl

moved_rows : (at : ℕ) (t : List ℕ)
    → moved at (read_text GroupOne t) ≡ under (map (moved_to at) (checks_of GroupOne t)) (value (read_text GroupOne t).kept)
unfolding moved
moved_rows at t =
    let r : Read Record = value (read_text GroupOne t).kept in
    ap (λ (o : Outcome). checked o r) (ap (moved_to at) (read_first GroupOne t) ∙ first_moved at (checks_of GroupOne t))
    ∙ under_first (map (moved_to at) (checks_of GroupOne t)) r

text_rows : (s : List ℕ) (at : ℕ)
    → text_at s at ≡ under (text_checks s at) (value (read_text GroupOne (cut s (stretch_at s at Tag.text))).kept)
unfolding text_at text_checks under
text_rows s at =
    let v = stretch_at s at Tag.text in
    element_then s at Tag.text _
    ∙ keep (coded s at Tag.text) (keep (end_check s v.to) (moved_rows v.from (cut s v)))

-- ---- the file

one_row : (w ps : List ℕ) → first_file w 1 (map (lent_file w) ps)
    ≡ checked (unless (stands Tag.group1 (map (λ at. get_or w at 0) ps)) 14 (length w))
    (value (lent_file w (group_one_place w ps)))
unfolding first_file group_one_place lent_file stands checked
one_row w [] = refl
one_row w (at ∷ ps) =
    let tag = get_or w at 0 in
    rw (same_test (group_of tag) 1 Tag.group1 tag (λ e. sym (one_tag tag e)) (λ e. ap group_of (sym e) ∙ tag_one))
    (go (eqb Tag.group1 tag) (one_row w ps))
  where
    some : List ℕ → Bool
    some qs = stands Tag.group1 (map (λ q. get_or w q 0) qs)

    go : (b : Bool)
        → first_file w 1 (map (lent_file w) ps)
        ≡ checked (unless (some ps) 14 (length w)) (value (lent_file w (group_one_place w ps)))
        → cond b (value (lent_file w at)) (first_file w 1 (map (lent_file w) ps))
        ≡ checked (unless (b || some ps) 14 (length w)) (value (lent_file w (cond b at (group_one_place w ps))))
    go true e = refl
    go false e = e

-- the text that group 1 holds
abbrev pub text_in : List ℕ → List ℕ → List ℕ
text_in w ps =
    let one = (lent_file w (group_one_place w ps)).held in
    cut (take one.to w) (stretch_at (take one.to w) one.from Tag.text)

pub group_one_rows : (w ps : List ℕ)
    → group_one w (map (lent_file w) ps) ≡ under (group_one_checks w ps) (value (read_text GroupOne (text_in w ps)).kept)
unfolding group_one group_one_checks under
group_one_rows w ps =
    let one = lent_file w (group_one_place w ps) in
    let some = unless (stands Tag.group1 (map (λ at. get_or w at 0) ps)) 14 (length w) in
    step_known (some ∷ []) (first_file w 1 (map (lent_file w) ps)) one _ (one_row w ps)
    ∙ keep some (text_rows (take one.held.to w) one.held.from)
