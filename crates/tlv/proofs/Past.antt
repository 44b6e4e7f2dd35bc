-- An element ends behind its place and within what holds it, so that none stands at its end or past it.
use Rattle.std.specs.Prelude.{Option, Some, None}
use Rattle.tlv.specs.declared.Count.{Count}
use Prim.Native.Nat.{ℕ, ◌+◌, ◌≤◌, ◌<◌}
use mathlib.Core.Path.{◌≡◌, refl, sym}
use mathlib.Core.Bool.{Bool, true, false, cond}
use mathlib.Core.List.{List}
use native.Mathlib.Omega.{arith}
use borrow.Author.Tests.{lt-leb, leb-true}
use lib.Dec.{eqb, leb, ltb}
use lib.ListN.{length}
use Rattle.refusal.specs.Numbers.{Why, by}
use Rattle.tlv.specs.declared.Stretch.{Stretch}
use Rattle.tlv.specs.Read.{Read, value, refusal}
use Rattle.tlv.proofs.Joined.{never_value, same_value, kept_value}
use Rattle.tlv.specs.Element.{sized, size_at, ends_within, tag_at, tag_width, behind_tag, element}

sized_past : (s : List ℕ) (at place : ℕ) (z : Option Count) → length s < place → sized s at place z ≡ refusal (by 10) at
unfolding sized ends_within
sized_past s at place (Some z) h = rw (lt-leb (place + z.told + z.count) (length s) (omega arith))
sized_past s at place None h = refl

pub some_tag : (tag : ℕ) → 1 ≤ tag_width tag
unfolding tag_width
some_tag tag = go (ltb tag 256)
  where
    go : (b : Bool) → 1 ≤ cond b 1 2
    go true = omega arith
    go false = omega arith

pub none_past : (s : List ℕ) (at tag : ℕ) → length s ≤ at → refusal (by 10) at ≡ element s at tag
unfolding element
none_past s at tag h =
    let p = at + tag_width tag in
    let e : sized s at p (size_at s p) ≡ refusal (by 10) at = sized_past s at p (size_at s p) (omega (arith, some_tag tag)) in
    go (eqb (tag_at s at tag) tag) e
  where
    go : (b : Bool) → sized s at (at + tag_width tag) (size_at s (at + tag_width tag)) ≡ refusal (by 10) at
        → refusal (by 10) at ≡ cond b (sized s at (at + tag_width tag) (size_at s (at + tag_width tag))) (refusal (by 10) at)
    go true e = sym e
    go false e = refl

-- nor behind any tag
pub none_behind : (s : List ℕ) (at width : ℕ) → 1 ≤ width → length s ≤ at → refusal (by 10) at ≡ behind_tag s at width
unfolding behind_tag
none_behind s at width some h = sym (sized_past s at (at + width) (size_at s (at + width)) (omega arith))

-- where a value stands whose length was read at a place
sized_within : (s : List ℕ) (at place : ℕ) (z : Option Count) (v : Stretch) → sized s at place z ≡ value v
    → (place ≤ v.from) × (v.from ≤ v.to) × (v.to ≤ length s)
unfolding sized ends_within
sized_within s at place (Some z) v e =
    let a = place + z.told in
    let b = a + z.count in
    let k = kept_value (leb b (length s)) (value (record { from = a; to = b })) _ at v e in
    let within : b ≤ length s = leb-true b (length s) k.0 in
    rw (← same_value k.1) (omega arith, omega arith, within)
sized_within s at place None v e = absurd (never_value _ at v e)

pub value_within : (s : List ℕ) (at tag : ℕ) (v : Stretch) → element s at tag ≡ value v
    → (at < v.from) × (v.from ≤ v.to) × (v.to ≤ length s)
unfolding element
value_within s at tag v e =
    let p = at + tag_width tag in
    let k = sized_within s at p (size_at s p) v
    (kept_value (eqb (tag_at s at tag) tag) (sized s at p (size_at s p)) _ at v e).1 in
    (omega (arith, some_tag tag, k.0), k.1, k.2)

-- what is refused is refused at its place
place_told : {A : Type 0} {n m : Why} {p q : ℕ} → ◌≡◌ {A = Read A} (refusal n p) (refusal m q) → p ≡ q
place_told e = cc

value_or_refused : {A : Type 0} (b : Bool) (a : A) (at : ℕ) (n : Why) (p : ℕ)
    → cond b (value a) (refusal (by 10) at) ≡ refusal n p → p ≡ at
value_or_refused true a at n p e = absurd (never_value n p a (sym e))
value_or_refused false a at n p e = sym (place_told e)

sized_refused : (s : List ℕ) (at place : ℕ) (z : Option Count) (n : Why) (p : ℕ) → sized s at place z ≡ refusal n p → p ≡ at
unfolding sized ends_within
sized_refused s at place None n p e = sym (place_told e)
sized_refused s at place (Some z) n p e = value_or_refused (leb (place + z.told + z.count) (length s)) _ at n p e

pub refused_there : (s : List ℕ) (at tag : ℕ) (n : Why) (p : ℕ) → element s at tag ≡ refusal n p → p ≡ at
unfolding element
refused_there s at tag n p e = go (eqb (tag_at s at tag) tag) e
  where
    place : ℕ
    place = at + tag_width tag

    go : (b : Bool) → cond b (sized s at place (size_at s place)) (refusal (by 10) at) ≡ refusal n p → p ≡ at
    go true f = sized_refused s at place (size_at s place) n p f
    go false f = sym (place_told f)
