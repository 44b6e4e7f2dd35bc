-- A walk over the elements goes on from the end of each, whatever number of steps is allowed, as long as it is enough.
use Prim.Native.Nat.{ℕ, suc, ◌+◌, ◌≤◌, ◌<◌}
use mathlib.Core.Path.{◌≡◌, ap, sym, ◌∙◌}
use mathlib.Core.Bool.{false}
use mathlib.Core.List.{List, [], ◌∷◌}
use native.Mathlib.Omega.{arith}
use borrow.Author.Tests.{le-leb, lt-leb}
use lib.Dec.{leb}
use lib.ListN.{length}
use Rattle.refusal.specs.Numbers.{Why}
use Rattle.tlv.specs.declared.Stretch.{Stretch}
use Rattle.tlv.specs.Read.{Read, value, refusal, and_then, outcome_in}
use Rattle.tlv.specs.Element.{element}
use Rattle.tlv.proofs.Steps.{steps_enough}
use Rattle.tlv.proofs.Joined.{kept_value, told_then}
use Rattle.tlv.proofs.Past.{value_within}
use Rattle.details.specs.Tags.{tag_here, is_detail}
use Rattle.details.specs.Details.{Detail, detail_at, details_from, details}

-- an element ends behind its start
pub detail_behind : (s : List ℕ) (at : ℕ) (v : Stretch) → detail_at s at ≡ value v → (at < v.to) × (v.to ≤ length s)
unfolding detail_at
detail_behind s at v e =
    let k = value_within s at (tag_here s at) v (kept_value (is_detail s at) (element s at (tag_here s at)) _ at v e).1 in
    (omega (arith, k.0, k.1), k.2)

-- an element before those that follow it
unfoldable pub before : List ℕ → ℕ → Stretch → Read (List Detail) → Read (List Detail)
before s at v rest = and_then rest (λ ds. value (record { tag = tag_here s at; at = at; held = v } ∷ ds))

-- what comes at a place, by what stands there
module _ (s : List ℕ) (at : ℕ) (here : at < length s) where
  some_left : leb (length s) at ≡ false
  some_left = lt-leb (length s) at here

  details_more : (k : ℕ) (v : Stretch) → detail_at s at ≡ value v
      → details_from (suc k) s at ≡ before s at v (details_from k s v.to)
  unfolding details_from and_then before
  details_more k v e = rw (some_left, e)

  details_stop : (k : ℕ) (n : Why) (p : ℕ) → detail_at s at ≡ refusal n p → details_from (suc k) s at ≡ refusal n p
  unfolding details_from and_then
  details_stop k n p e = rw (some_left, e)

details_end : (k : ℕ) (s : List ℕ) (at : ℕ) → length s ≤ at → details_from (suc k) s at ≡ value []
unfolding details_from
details_end k s at h = rw (le-leb (length s) at h)

-- any number of steps that is enough gives the same
details_enough : (k m : ℕ) (s : List ℕ) (at : ℕ) → length s ≤ at + k → length s ≤ at + m
    → details_from (suc k) s at ≡ details_from (suc m) s at
details_enough k m s at a b =
    steps_enough
    (length s)
    (detail_at s)
    (λ v. v.to)
    (before s)
    (value [])
    (λ i p. details_from (suc i) s p)
    (λ i p. details_end i s p)
    (λ i p v h. details_more s p h (suc i) v)
    (λ i p x y h. details_stop s p h (suc i) x y)
    (λ p v e. (detail_behind s p v e).0)
    k
    m
    at
    a
    b

-- ---- what a loop goes by

pub details_next : (s : List ℕ) (at : ℕ) (v : Stretch) → at < length s → detail_at s at ≡ value v
    → details s at ≡ before s at v (details s v.to)
unfolding details
details_next s at v h e =
    details_enough (length s) (suc (length s)) s at (omega arith) (omega arith) ∙ details_more s at h (suc (length s)) v e

pub details_refused : (s : List ℕ) (at : ℕ) (n : Why) (p : ℕ) → at < length s → detail_at s at ≡ refusal n p
    → details s at ≡ refusal n p
unfolding details
details_refused s at n p h e =
    details_enough (length s) (suc (length s)) s at (omega arith) (omega arith) ∙ details_stop s at h (suc (length s)) n p e

pub details_done : (s : List ℕ) (at : ℕ) → length s ≤ at → details s at ≡ value []
unfolding details
details_done s at h = details_end (length s) s at h

pub told_next : (s : List ℕ) (at : ℕ) (v : Stretch) → at < length s → detail_at s at ≡ value v
    → outcome_in (details s v.to) ≡ outcome_in (details s at)
unfolding before
told_next s at v h e = sym (ap outcome_in (details_next s at v h e) ∙ told_then (details s v.to)
    (λ ds. record { tag = tag_here s at; at = at; held = v } ∷ ds))
