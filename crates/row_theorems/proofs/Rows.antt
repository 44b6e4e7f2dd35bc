-- A reading as rows of checks before its value: what they decide, and how readings that go on from one another join their rows.
use Prim.Native.Nat.{ℕ, ◌+◌, ◌≤◌, ◌<◌}
use mathlib.Core.Path.{◌≡◌, refl, ap, sym, ◌∙◌}
use mathlib.Core.Bool.{Bool, true, false, cond, not, ◌&&◌}
use mathlib.Core.List.{List, [], ◌∷◌, ◌++◌}
use lib.Dec.{eqb, leb}
use lib.ListN.{length}
use Rattle.std.specs.Prelude.{Option, Some, None}
use Rattle.refusal.specs.Numbers.{by}
use Rattle.refusal.specs.Outcome.{Outcome, passed, refused, or_else, unless}
use Rattle.refusal.proofs.Outcomes.{refused_not_passed, both_passed}
use Rattle.tlv.specs.declared.Count.{Count}
use Rattle.tlv.specs.declared.Stretch.{Stretch}
use Rattle.tlv.specs.Read.{Read, value, refusal, and_then, checked, outcome_in}
use Rattle.tlv.specs.Element.{element, sized, ends_within, size_at, tag_at, tag_width}
use Rattle.tlv.proofs.Joined.{checked_outcome, same_value, checked_value}
use Rattle.tlv.proofs.Past.{value_within}
use Rattle.text_theorems.proofs.FirstOf.{first_of}
use Rattle.tlv.specs.Places.{stretch_by, stretch_at}
use Rattle.row_theorems.specs.Standing.{is_length, is_coded, coded}

-- a test that goes on where it holds, and one that goes on where it does not
pub goes_on : (b : Bool) (n p : ℕ) (rest : Outcome) → cond b rest (refused (by n) p) ≡ or_else (unless b n p) rest
goes_on true n p rest = refl
goes_on false n p rest = refl

pub stops : (b : Bool) (n p : ℕ) (rest : Outcome) → cond b (refused (by n) p) rest ≡ or_else (unless (not b) n p) rest
stops true n p rest = refl
stops false n p rest = refl

-- checks one after the other, and then what goes on
unfoldable pub under : {A : Type 0} → List Outcome → Read A → Read A
under [] m = m
under (o ∷ os) m = checked o (under os m)

-- of rows that pass, the last one does
unfoldable pub last_of : List Outcome → Outcome
last_of [] = passed
last_of (o ∷ []) = o
last_of (o ∷ (p ∷ os)) = last_of (p ∷ os)

pub last_passed : (os : List Outcome) → first_of os ≡ passed → last_of os ≡ passed
unfolding first_of last_of
last_passed [] e = refl
last_passed (o ∷ []) e = (both_passed o passed e).0
last_passed (o ∷ (p ∷ os)) e = last_passed (p ∷ os) (both_passed o (first_of (p ∷ os)) e).1

module _ {A : Type 0} where
  -- rows before a value decide as the first of them that fails
  pub under_outcome : (os : List Outcome) (a : A) → outcome_in (under os (value a)) ≡ first_of os
  unfolding under first_of outcome_in
  under_outcome [] a = refl
  under_outcome (o ∷ os) a = checked_outcome o (under os (value a)) ∙ ap (or_else o) (under_outcome os a)

  under_append : (a b : List Outcome) (m : Read A) → under (a ++ b) m ≡ under a (under b m)
  unfolding under
  under_append [] b m = refl
  under_append (o ∷ a) b m = ap (checked o) (under_append a b m)

  pub under_first : (os : List Outcome) (m : Read A) → checked (first_of os) m ≡ under os m
  unfolding under first_of checked
  under_first [] m = refl
  under_first (passed ∷ os) m = under_first os m
  under_first (refused n p ∷ os) m = refl

  pub under_passed : (os : List Outcome) (m : Read A) → first_of os ≡ passed → under os m ≡ m
  unfolding under first_of checked
  under_passed [] m e = refl
  under_passed (passed ∷ os) m e = under_passed os m e
  under_passed (refused n p ∷ os) m e = absurd (refused_not_passed e)

  -- a value behind rows is the one that stands there
  pub under_value : (os : List Outcome) (a b : A) → under os (value a) ≡ value b → a ≡ b
  unfolding under
  under_value [] a b e = same_value e
  under_value (o ∷ os) a b e = under_value os a b (checked_value o (under os (value a)) b e).1

  -- what goes on is looked at only where the rows pass
  pub under_same : (os : List Outcome) (m n : Read A) → (first_of os ≡ passed → m ≡ n) → under os m ≡ under os n
  unfolding under first_of checked
  under_same [] m n h = h refl
  under_same (passed ∷ os) m n h = under_same os m n h
  under_same (refused k p ∷ os) m n h = refl

  -- ---- rows that are joined

  pub keep : (o : Outcome) {m n : Read A} → m ≡ n → checked o m ≡ checked o n
  keep o e = ap (checked o) e

  pub rows_then : (os rest : List Outcome) (m n : Read A) → m ≡ under rest n → under os m ≡ under (os ++ rest) n
  rows_then os rest m n e = ap (under os) e ∙ sym (under_append os rest n)

  pub first_then : (o : Outcome) (os rest : List Outcome) (m n : Read A) → o ≡ first_of os → m ≡ under rest n
      → checked o m ≡ under (os ++ rest) n
  first_then o os rest m n e f =
      ap (λ (x : Outcome). checked x m) e ∙ under_first os m ∙ rows_then os rest m n f

  pub checked_else : (a b : Outcome) (m : Read A) → checked (or_else a b) m ≡ checked a (checked b m)
  unfolding checked
  checked_else passed b m = refl
  checked_else (refused n p) b m = refl

  -- a rule of two parts is two rows
  both_parts : (a b : Bool) (n p : ℕ) (m : Read A)
      → checked (unless (a && b) n p) m ≡ checked (unless a n p) (checked (unless b n p) m)
  unfolding checked
  both_parts true b n p m = refl
  both_parts false b n p m = refl

-- ---- steps

module _ {A B : Type 0} where
  under_then : (os : List Outcome) (a : A) (go : A → Read B) → and_then (under os (value a)) go ≡ under os (go a)
  unfolding under and_then checked
  under_then [] a go = refl
  under_then (passed ∷ os) a go = under_then os a go
  under_then (refused n p ∷ os) a go = refl

  pub step_known : (os : List Outcome) (m : Read A) (a : A) (go : A → Read B) → m ≡ under os (value a)
      → and_then m go ≡ under os (go a)
  step_known os m a go e = ap (λ (x : Read A). and_then x go) e ∙ under_then os a go

  pub step_then : (os rest : List Outcome) (m : Read A) (a : A) (go : A → Read B) (n : Read B) → m ≡ under os (value a)
      → go a ≡ under rest n → and_then m go ≡ under (os ++ rest) n
  step_then os rest m a go n e f = step_known os m a go e ∙ rows_then os rest (go a) n f

-- an element is one row, and its value stands where its length says
pub element_row : (s : List ℕ) (at tag : ℕ) → element s at tag ≡ checked (coded s at tag) (value (stretch_at s at tag))
unfolding element coded is_coded stretch_at sized ends_within is_length stretch_by checked
element_row s at tag = go (eqb (tag_at s at tag) tag) (size_at s (at + tag_width tag))
  where
    within : (b : Bool) (v : Stretch) → cond b (value v) (refusal (by 10) at) ≡ checked (unless b 10 at) (value v)
    within true v = refl
    within false v = refl

    go : (b : Bool) (z : Option Count)
        → cond b (sized s at (at + tag_width tag) z) (refusal (by 10) at)
        ≡ checked (unless (b && (is_length z && leb (stretch_by (at + tag_width tag) z).to (length s))) 10 at)
        (value (stretch_by (at + tag_width tag) z))
    go false z = refl
    go true None = refl
    go true (Some z) = within (leb _ (length s)) _

pub coded_within : (s : List ℕ) (at tag : ℕ) → coded s at tag ≡ passed
    → (at < (stretch_at s at tag).from) × ((stretch_at s at tag).from ≤ (stretch_at s at tag).to)
    × ((stretch_at s at tag).to ≤ length s)
unfolding checked
coded_within s at tag e =
    let v = stretch_at s at tag in
    value_within s at tag v (element_row s at tag ∙ ap (λ (o : Outcome). checked o (value v)) e)

pub element_then : {B : Type 0} (s : List ℕ) (at tag : ℕ) (go : Stretch → Read B)
    → and_then (element s at tag) go ≡ checked (coded s at tag) (go (stretch_at s at tag))
unfolding under
element_then s at tag go = step_known (coded s at tag ∷ []) (element s at tag) (stretch_at s at tag) go (element_row s at tag)

-- an element whose content has a rule of two parts, and what goes on behind it
pub element_of_two : {B : Type 0} (s : List ℕ) (at tag : ℕ) (a b : Stretch → Bool) (n : ℕ) (go : Stretch → Read B)
    (rest : List Outcome) (m : Read B) → go (stretch_at s at tag) ≡ under rest m
    → and_then (element s at tag) (λ v. checked (unless (a v && b v) n at) (go v))
    ≡ under (coded s at tag ∷ unless (a (stretch_at s at tag)) n at ∷ unless (b (stretch_at s at tag)) n at ∷ rest) m
unfolding under
element_of_two s at tag a b n go rest m e =
    let v = stretch_at s at tag in
    element_then s at tag _
    ∙ keep (coded s at tag) (both_parts (a v) (b v) n at (go v) ∙ keep (unless (a v) n at) (keep (unless (b v) n at) e))
