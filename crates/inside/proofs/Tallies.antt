-- The places of elements with a tag: the pass over them, step by step.
use Prim.Native.Nat.{ℕ, zero, suc, ◌+◌, ◌≤◌, ◌<◌}
use mathlib.Core.Path.{◌≡◌, refl, ap, sym, ◌∙◌}
use mathlib.Core.Bool.{Bool, true, false, cond}
use mathlib.Core.List.{List, [], ◌∷◌}
use native.Mathlib.Omega.{arith}
use borrow.Author.Tests.{eq-eqb, ne_eqb, leb-false}
use lib.Dec.{eqb, leb}
use lib.ListN.{length, get_or}
use Rattle.std.specs.Prelude.{Option, Some, None}
use Rattle.std.specs.List.{slice_get}
use Rattle.std.specs.Option.{option_or}
use Rattle.std.proofs.lemmas.Option.{none-some, same_Some}
use Rattle.tlv.specs.Places.{places_from, places}
use Rattle.tlv.proofs.Onward.{ends_behind, places_next, places_done}
use Rattle.tree.specs.Tag.{tag_here}
use Rattle.inside.specs.Templates.{value_here, directly, with_tag}
use Rattle.inside.specs.Inner.Tally.{tally_of, tallied}

module _ (s : List ℕ) where
  pub onward : (at : ℕ) → at < (value_here s at).to
  unfolding value_here
  onward at = ends_behind s at (tag_here s at)

  pub directly_next : (at : ℕ) → at < length s → directly s at ≡ at ∷ directly s (value_here s at).to
  unfolding directly
  directly_next at h = places_next (λ (p : ℕ). (value_here s p).to) (length s) onward at h

  pub directly_done : (at : ℕ) → length s ≤ at → directly s at ≡ []
  unfolding directly
  directly_done at h = places_done (λ (p : ℕ). (value_here s p).to) (length s) onward at h

  module _ (tag : ℕ) where
    -- what is left from here
    abbrev left : ℕ → List ℕ
    left at = with_tag s tag (directly s at)

    pub tagged : (at : ℕ) → at < length s → tag_here s at ≡ tag → left at ≡ at ∷ left (value_here s at).to
    unfolding with_tag
    tagged at h e = rw (directly_next at h, eq-eqb (tag_here s at) tag e)

    pub untagged : (at : ℕ) → at < length s → (tag_here s at ≡ tag → ⊥) → left at ≡ left (value_here s at).to
    unfolding with_tag
    untagged at h e = rw (directly_next at h, ne_eqb (tag_here s at) tag e)

    pub none_tagged : (at : ℕ) → length s ≤ at → left at ≡ []
    unfolding with_tag
    none_tagged at h = rw (directly_done at h)

    -- ---- what the loop goes by: so many were found, the first of them at a place, and those that are left

    pub record Onward (start at : ℕ) (first : Option ℕ) (times : ℕ) : Type 0 where
      pub so_many : times + length (left at) ≡ length (left start)
      pub so_first : option_or first (slice_get (left at) 0) ≡ slice_get (left start) 0
      pub no_more : times ≤ at

    pub onward_start : (start : ℕ) → Onward start start None 0
    onward_start start = record { so_many = omega arith; so_first = refl; no_more = omega arith }

    module _ (start at : ℕ) (first : Option ℕ) (times : ℕ) (h : at < length s) (o : Onward start at first times) where
      pub onward_hit : tag_here s at ≡ tag
          → Onward start (value_here s at).to (option_or first (Some at)) (times + 1)
      onward_hit e =
          let more = tagged at h e in
          let on = onward at in
          let many = o.so_many in
          let grown : length (left at) ≡ suc (length (left (value_here s at).to)) = ap length more in
          record {
            so_many = omega (arith, grown, many);
            so_first = go first (slice_get (left (value_here s at).to) 0)
                ∙ ap (λ (l : List ℕ). option_or first (slice_get l 0)) (sym more) ∙ o.so_first;
            no_more = let n = o.no_more in omega (arith, n, on);
          }
        where
          go : (f rest : Option ℕ) → option_or (option_or f (Some at)) rest ≡ option_or f (Some at)
          go None rest = refl
          go (Some p) rest = refl

      pub onward_miss : (tag_here s at ≡ tag → ⊥) → Onward start (value_here s at).to first times
      onward_miss e =
          let same = untagged at h e in
          record {
            so_many = rw (← same) o.so_many;
            so_first = rw (← same) o.so_first;
            no_more = let n = o.no_more in omega (arith, n, onward at);
          }

    pub onward_end : (start at : ℕ) (first : Option ℕ) (times : ℕ) → length s ≤ at → Onward start at first times
        → record { first = first; times = times } ≡ tallied s tag start
    unfolding tallied tally_of
    onward_end start at first times h o =
        let none = none_tagged at h in
        let empty : length (left at) ≡ 0 = ap length none in
        let many : times ≡ length (left start) = let m = o.so_many in omega arith in
        let found : first ≡ slice_get (left start) 0 = sym (go first)
        ∙ ap (λ (l : List ℕ). option_or first (slice_get l 0)) (sym none) ∙ o.so_first in
        rw (← many, ← found)
      where
        go : (f : Option ℕ) → option_or f None ≡ f
        go None = refl
        go (Some p) = refl

    -- the first of them stands behind where the walk begins, and within
    first_from : (k at p : ℕ)
        → slice_get (with_tag s tag (places_from (λ (p : ℕ). (value_here s p).to) (length s) k at)) 0 ≡ Some p
        → (at ≤ p) × (p < length s)
    unfolding places_from with_tag
    first_from zero at p e = absurd (none-some p e)
    first_from (suc k) at p e = go (first_from k (value_here s at).to p) (leb (length s) at) refl e
      where
        rest : List ℕ
        rest = places_from (λ (p : ℕ). (value_here s p).to) (length s) k (value_here s at).to

        Later : Type 0
        Later = slice_get (with_tag s tag rest) 0 ≡ Some p → ((value_here s at).to ≤ p) × (p < length s)

        either : Later → (b : Bool) → at < length s
            → slice_get (cond b (at ∷ with_tag s tag rest) (with_tag s tag rest)) 0 ≡ Some p → (at ≤ p) × (p < length s)
        either later true h q = let same = same_Some at p q in (omega arith, omega arith)
        either later false h q = let r = later q in (omega (arith, r.0, onward at), r.1)

        go : Later → (a : Bool) → leb (length s) at ≡ a → slice_get (with_tag s tag (cond a [] (at ∷ rest))) 0 ≡ Some p
            → (at ≤ p) × (p < length s)
        go later true h q = absurd (none-some p q)
        go later false h q = either later (eqb (tag_here s at) tag) (leb-false (length s) at h) q

    pub first_place : (at p : ℕ) → slice_get (left at) 0 ≡ Some p → (at ≤ p) × (p < length s)
    unfolding directly places
    first_place at p e = first_from (suc (length s)) at p e

    pub first_within : (at : ℕ) → get_or (left at) 0 0 ≤ length s
    first_within at = go (left at) (first_place at)
      where
        go : (ps : List ℕ) → ((p : ℕ) → slice_get ps 0 ≡ Some p → (at ≤ p) × (p < length s)) → get_or ps 0 0 ≤ length s
        go [] h = omega arith
        go (p ∷ ps) h = omega (arith, (h p refl).1)
