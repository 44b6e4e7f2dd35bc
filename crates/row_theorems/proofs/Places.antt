-- A walk from place to place is the rows of each place, before what stands at each: for the walks over files and over entries.
use Prim.Native.Nat.{ℕ, zero, suc, ◌+◌, ◌≤◌, ◌<◌}
use mathlib.Core.Path.{◌≡◌, refl, ap, ◌∙◌}
use mathlib.Core.Bool.{Bool, true, false, cond}
use mathlib.Core.List.{List, [], ◌∷◌, ◌++◌, map}
use native.Mathlib.Omega.{arith}
use borrow.Author.Tests.{leb-false}
use lib.Dec.{leb}
use Rattle.refusal.specs.Outcome.{Outcome, passed}
use Rattle.tlv.specs.Read.{Read, value, and_then}
use Rattle.text_theorems.proofs.FirstOf.{first_of}
use Rattle.tlv.specs.Places.{places_from, places}
use Rattle.row_theorems.specs.Standing.{each}
use Rattle.row_theorems.proofs.Rows.{under, under_same, rows_then, step_known}

-- end: where what is walked ends; what stands at a place, by which rows, and where it ends; what the walk makes of it
module _ {A B : Type 0} (end : ℕ) (step : ℕ → Read A) (rows : ℕ → List Outcome) (found : ℕ → A) (end_of : A → ℕ)
    (behind : ℕ → ℕ) (make : ℕ → A → B) (walk : ℕ → ℕ → Read (List B))
    (walked : (k at : ℕ) → walk (suc k) at ≡ cond (leb end at) (value [])
    (and_then (step at) (λ a. and_then (walk k (end_of a)) (λ rest. value (make at a ∷ rest)))))
    (stepped : (at : ℕ) → step at ≡ under (rows at) (value (found at)))
    (ends : (at : ℕ) → first_of (rows at) ≡ passed → (at < behind at) × (behind at ≤ end) × (end_of (found at) ≡ behind at)) where
  abbrev made : ℕ → B
  made p = make p (found p)

  abbrev left : ℕ → ℕ → List ℕ
  left k at = places_from behind end k at

  -- what the walk goes on with from what stands at a place
  abbrev onward : ℕ → ℕ → A → Read (List B)
  onward k at a = and_then (walk k (end_of a)) (λ rest. value (make at a ∷ rest))

  one_place : (k at : ℕ)
      → ((n : ℕ) → n ≤ end → at < n → walk k n ≡ under (each rows (left k n)) (value (map made (left k n))))
      → and_then (step at) (onward k at)
      ≡ under (rows at ++ each rows (left k (behind at))) (value (made at ∷ map made (left k (behind at))))
  one_place k at known =
      step_known (rows at) (step at) (found at) (onward k at) (stepped at)
      ∙ under_same (rows at) (onward k at (found at)) (under more last) go
      ∙ rows_then (rows at) more (under more last) last refl
    where
      more : List Outcome
      more = each rows (left k (behind at))

      last : Read (List B)
      last = value (made at ∷ map made (left k (behind at)))

      go : first_of (rows at) ≡ passed → onward k at (found at) ≡ under more last
      go e =
          let b = ends at e in
          let same : end_of (found at) ≡ behind at = b.2 in
          step_known more (walk k (end_of (found at))) (map made (left k (behind at))) (λ rest. value (made at ∷ rest))
          (ap (walk k) same ∙ known (behind at) b.1 b.0)

  walk_rows : (k at : ℕ) → at ≤ end → end < at + k → walk k at ≡ under (each rows (left k at)) (value (map made (left k at)))
  unfolding places_from each under
  walk_rows zero at h e = absurd (omega arith)
  walk_rows (suc k) at h e =
      walked k at ∙ go (leb end at) (one_place k at (λ n a b. walk_rows k n a (omega arith)))
    where
      go : (b : Bool)
          → and_then (step at) (onward k at)
          ≡ under (rows at ++ each rows (left k (behind at))) (value (made at ∷ map made (left k (behind at))))
          → cond b (value []) (and_then (step at) (onward k at))
          ≡ under (each rows (cond b [] (at ∷ left k (behind at)))) (value (map made (cond b [] (at ∷ left k (behind at)))))
      go true f = refl
      go false f = f

  -- one step more than there are octets is enough from any place
  pub places_rows : (at : ℕ)
      → walk (suc end) at ≡ under (each rows (places behind end at)) (value (map made (places behind end at)))
  unfolding places_from places each under
  places_rows at = go (leb end at) refl
    where
      go : (b : Bool) → leb end at ≡ b
          → walk (suc end) at ≡ under (each rows (places_from behind end (suc end) at))
          (value (map made (places_from behind end (suc end) at)))
      go true e = walked end at ∙ rw e
      go false e = let h : at < end = leb-false end at e in walk_rows (suc end) at (omega arith) (omega arith)
