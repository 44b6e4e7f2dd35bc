-- Which element stands at a place, by the tag that stands there.
use Prim.Native.Nat.{ℕ, ◌+◌, ◌*◌, ◌≤◌, ◌<◌}
use mathlib.Core.Path.{◌≡◌, refl}
use mathlib.Core.Bool.{Bool, true, false}
use mathlib.Core.List.{List}
use native.Mathlib.Omega.{arith}
use lib.Dec.{eqb}
use lib.ListN.{length, get_or, get_or-eq_default}
use Rattle.refusal.specs.Numbers.{by}
use Rattle.tlv.specs.Read.{refusal}
use Rattle.tlv.specs.Element.{element, tag_at, behind_tag}
use Rattle.tlv.proofs.Whatever.{behind_two}
use Rattle.details.specs.Tags.{template_tag, is_named, tag_here, is_detail}
use Rattle.details.specs.Details.{detail_at}
use Rattle.details.proofs.Listed.{named_low}

pub detail_past : (s : List ℕ) (at : ℕ) → length s ≤ at → refusal (by 10) at ≡ detail_at s at
unfolding detail_at is_detail tag_here is_named
detail_past s at h =
    let past : length s ≤ at + 1 = omega arith in
    rw (get_or-eq_default s 0 h, get_or-eq_default s 0 past)

pub detail_template : (s : List ℕ) (at : ℕ) → tag_here s at ≡ template_tag → element s at template_tag ≡ detail_at s at
unfolding detail_at is_detail is_named element tag_at
detail_template s at k = go (eqb (get_or s at 0) template_tag) refl
  where
    go : (b : Bool) → eqb (get_or s at 0) template_tag ≡ b → element s at template_tag ≡ detail_at s at
    go true e = rw (k, e)
    go false e = rw (k, e)

-- what the two octets of a tag are
two_octets : (s : List ℕ) (at : ℕ) → (tag_here s at ≡ template_tag → ⊥)
    → (eqb (get_or s at 0) template_tag ≡ false) × (tag_here s at ≡ get_or s at 0 * 256 + get_or s (at + 1) 0)
unfolding tag_here
two_octets s at other = go (eqb (get_or s at 0) template_tag) refl
  where
    go : (b : Bool) → eqb (get_or s at 0) template_tag ≡ b
        → (eqb (get_or s at 0) template_tag ≡ false) × (tag_here s at ≡ get_or s at 0 * 256 + get_or s (at + 1) 0)
    go true e = absurd (other (rw e))
    go false e = (e, rw e)

pub detail_named : (s : List ℕ) (at : ℕ) → get_or s (at + 1) 0 < 256 → (tag_here s at ≡ template_tag → ⊥)
    → is_named (tag_here s at) ≡ true → behind_tag s at 2 ≡ detail_at s at
unfolding detail_at is_detail
detail_named s at b other named =
    let k = two_octets s at other in
    let low = named_low (get_or s at 0) (get_or s (at + 1) 0) b (rw k.1 at named) in
    rw (named, k.0, k.1) (behind_two s at (omega (arith, low)))

pub detail_foreign : (s : List ℕ) (at : ℕ) → (tag_here s at ≡ template_tag → ⊥) → is_named (tag_here s at) ≡ false
    → refusal (by 10) at ≡ detail_at s at
unfolding detail_at is_detail
detail_foreign s at other foreign = rw ((two_octets s at other).0, foreign)

-- past the end no template stands
pub no_template_past : (s : List ℕ) (at : ℕ) → length s ≤ at → eqb (tag_here s at) template_tag ≡ false
unfolding tag_here
no_template_past s at h =
    let past : length s ≤ at + 1 = omega arith in
    rw (get_or-eq_default s 0 h, get_or-eq_default s 0 past)
