-- What every refusal has that a reading step by step can be: of steps in their order, what each of them has.
use Rattle.std.specs.Prelude.{Option, Some, None}
use Rattle.tlv.specs.declared.Count.{Count}
use Prim.Native.Nat.{ℕ, ◌+◌}
use mathlib.Core.Path.{◌≡◌, refl}
use mathlib.Core.List.{List}
use lib.Dec.{eqb, leb}
use lib.ListN.{length}
use Rattle.lent.proofs.Bools.{either_way}
use Rattle.refusal.specs.Numbers.{Why, by}
use Rattle.refusal.specs.Outcome.{Outcome, passed, refused}
use Rattle.refusal.proofs.Each.{Each, each_passed, each_refused, each_unless}
use Rattle.tlv.specs.declared.Stretch.{Stretch}
use Rattle.tlv.specs.Read.{Read, value, refusal, and_then, checked, outcome_in}
use Rattle.tlv.specs.Cut.{end_check}
use Rattle.tlv.specs.Element.{size_at, tag_at, tag_width, ends_within, sized, element}

abbrev pub EachRead : {A : Type 0} → (Why → ℕ → Type 0) → Read A → Type 0
EachRead P m = Each P (outcome_in m)

module _ (P : Why → ℕ → Type 0) where
  pub each_value : {A : Type 0} (a : A) → EachRead P (value a)
  unfolding outcome_in
  each_value a = each_passed P

  pub each_refusal : (A : Type 0) (n : Why) (p : ℕ) → P n p → EachRead {A = A} P (refusal n p)
  unfolding outcome_in
  each_refusal A n p h = each_refused P n p h

  pub each_then : {A B : Type 0} (m : Read A) (go : A → Read B) → EachRead P m
      → ((a : A) → m ≡ value a → EachRead P (go a)) → EachRead P (and_then m go)
  unfolding outcome_in and_then
  each_then (value a) go h k = k a refl
  each_then (refusal n p) go h k = h

  -- what goes on is looked at where the check passed
  pub each_behind : {A : Type 0} (o : Outcome) (m : Read A) → Each P o → (o ≡ passed → EachRead P m) → EachRead P (checked o m)
  unfolding outcome_in checked
  each_behind passed m h k = k refl
  each_behind (refused n p) m h k = h

  pub each_checked : {A : Type 0} (o : Outcome) (m : Read A) → Each P o → EachRead P m → EachRead P (checked o m)
  each_checked o m h k = each_behind o m h (λ e. k)

  sized_each : (s : List ℕ) (at place : ℕ) (z : Option Count) → P (by 10) at → EachRead P (sized s at place z)
  unfolding sized ends_within
  sized_each s at place (Some z) h =
      either_way (EachRead P) (leb (place + z.told + z.count) (length s)) _ _ (each_value _) (each_refusal Stretch (by 10) at h)
  sized_each s at place None h = each_refusal Stretch (by 10) at h

  -- an element is refused by 10 at its tag
  pub each_element : (s : List ℕ) (at tag : ℕ) → P (by 10) at → EachRead P (element s at tag)
  unfolding element
  each_element s at tag h =
      either_way (EachRead P) (eqb (tag_at s at tag) tag) _ _
      (sized_each s at (at + tag_width tag) (size_at s (at + tag_width tag)) h)
      (each_refusal Stretch (by 10) at h)

  pub each_end : (s : List ℕ) (at : ℕ) → P (by 10) at → Each P (end_check s at)
  unfolding end_check
  each_end s at h = each_unless P (eqb at (length s)) 10 at h
