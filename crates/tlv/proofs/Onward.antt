-- Elements as their lengths say: where the value of each stands, and the places of those that stand one behind the other.
use Rattle.std.specs.Prelude.{Option, Some, None}
use Rattle.tlv.specs.declared.Count.{Count}
use Prim.Native.Nat.{ℕ, zero, suc, ◌+◌, ◌≤◌, ◌<◌}
use mathlib.Core.Path.{◌≡◌, refl, ap, ◌∙◌}
use mathlib.Core.Bool.{Bool, true, false}
use mathlib.Core.List.{List, [], ◌∷◌}
use native.Mathlib.Omega.{arith}
use borrow.Author.Tests.{le-leb, lt-leb, leb-true, leb-false}
use lib.Dec.{eqb, leb}
use lib.ListN.{length}
use Rattle.tlv.specs.declared.Stretch.{Stretch}
use Rattle.tlv.specs.Read.{value}
use Rattle.tlv.specs.Element.{sized, size_at, ends_within, tag_at, tag_width, element}
use Rattle.tlv.specs.Places.{stretch_by, stretch_at, places_from, places}
use Rattle.tlv.proofs.Joined.{never_value, same_value, kept_value}
use Rattle.tlv.proofs.Past.{some_tag}

-- a value stands behind its tag, and ends where it begins or behind that
by_forward : (place : ℕ) (z : Option Count)
    → (place ≤ (stretch_by place z).from) × ((stretch_by place z).from ≤ (stretch_by place z).to)
unfolding stretch_by
by_forward place (Some z) = (omega arith, omega arith)
by_forward place None = (omega arith, omega arith)

pub some_place : (s : List ℕ) (at tag : ℕ) → at + tag_width tag ≤ (stretch_at s at tag).from
unfolding stretch_at
some_place s at tag = (by_forward (at + tag_width tag) (size_at s (at + tag_width tag))).0

pub ends_behind : (s : List ℕ) (at tag : ℕ) → at < (stretch_at s at tag).to
unfolding stretch_at
ends_behind s at tag =
    let k = by_forward (at + tag_width tag) (size_at s (at + tag_width tag)) in
    omega (arith, some_tag tag, k.0, k.1)

-- where an element is read, its value stands where its length says
pub stretch_read : (s : List ℕ) (at tag : ℕ) (v : Stretch) → element s at tag ≡ value v → stretch_at s at tag ≡ v
unfolding element stretch_at sized ends_within stretch_by
stretch_read s at tag v e =
    go (size_at s (at + tag_width tag))
    (kept_value (eqb (tag_at s at tag) tag) (sized s at (at + tag_width tag) (size_at s (at + tag_width tag))) _ at v e).1
  where
    go : (z : Option Count) → sized s at (at + tag_width tag) z ≡ value v → stretch_by (at + tag_width tag) z ≡ v
    go (Some z) f =
        let a = at + tag_width tag + z.told in
        same_value (kept_value (leb (a + z.count) (length s)) (value (record { from = a; to = a + z.count })) _ at v f).1
    go None f = absurd (never_value _ at v f)

-- ---- places

module _ (behind : ℕ → ℕ) (end : ℕ) (onward : (at : ℕ) → at < behind at) where
  none_left : (k at : ℕ) → end ≤ at → places_from behind end k at ≡ []
  unfolding places_from
  none_left zero at h = refl
  none_left (suc k) at h = rw (le-leb end at h)

  some_left : (k at : ℕ) → at < end → places_from behind end (suc k) at ≡ at ∷ places_from behind end k (behind at)
  unfolding places_from
  some_left k at h = rw (lt-leb end at h)

  -- any number of steps that is enough gives the same
  places_enough : (k m at : ℕ) → end ≤ at + k → end ≤ at + m → places_from behind end k at ≡ places_from behind end m at
  places_enough zero m at a b = none_left zero at (omega arith) ∙ rw (none_left m at (omega arith))
  places_enough (suc k) zero at a b = none_left (suc k) at (omega arith) ∙ rw (none_left zero at (omega arith))
  places_enough (suc k) (suc m) at a b = go (leb end at) refl (places_enough k m (behind at))
    where
      go : (x : Bool) → leb end at ≡ x
          → (end ≤ behind at + k → end ≤ behind at + m
          → places_from behind end k (behind at) ≡ places_from behind end m (behind at))
          → places_from behind end (suc k) at ≡ places_from behind end (suc m) at
      go true e ih = let h = leb-true end at e in none_left (suc k) at h ∙ rw (none_left (suc m) at h)
      go false e ih =
          let h = leb-false end at e in
          some_left k at h
          ∙ (ap (λ (l : List ℕ). at ∷ l) (ih (omega (arith, onward at)) (omega (arith, onward at))) ∙ rw (some_left m at h))

  pub places_next : (at : ℕ) → at < end → places behind end at ≡ at ∷ places behind end (behind at)
  unfolding places
  places_next at h =
      some_left end at h
      ∙ ap (λ (l : List ℕ). at ∷ l)
      (places_enough end (suc end) (behind at) (omega (arith, onward at)) (omega (arith, onward at)))

  pub places_done : (at : ℕ) → end ≤ at → places behind end at ≡ []
  unfolding places
  places_done at h = none_left (suc end) at h
