-- The head of an element, by the octets that stand first.
use Prim.Native.Nat.{ℕ, ◌+◌, ◌%◌, ◌≤◌, ◌<◌}
use mathlib.Core.Path.{◌≡◌, refl}
use mathlib.Core.Bool.{Bool, true, false, cond}
use mathlib.Core.List.{List}
use native.Mathlib.Omega.{arith}
use borrow.Author.Tests.{eq-eqb, ne_eqb, le-leb, lt-leb}
use lib.ListN.{length, get_or}
use Rattle.refusal.specs.Numbers.{by}
use Rattle.tlv.specs.declared.Stretch.{Stretch}
use Rattle.tlv.specs.Read.{value, refusal}
use Rattle.tlv.specs.Element.{size_of, size_at, sized, ends_within, behind_tag, element}
use Rattle.tlv.proofs.Joined.{kept_value}
use Rattle.tlv.proofs.Past.{none_past, value_within}
use Rattle.tlv.proofs.Whatever.{behind_one, behind_two}
use Rattle.tree.specs.Tag.{has_second, is_second, tag_here, is_tag_here}
use Rattle.tree.specs.Reading.{here}

module _ (s : List ℕ) (at : ℕ) where
  pub here_past : length s ≤ at → refusal (by 10) at ≡ here s at
  unfolding here
  here_past h = go (is_tag_here s at) (none_past s at (tag_here s at) h)
    where
      go : (b : Bool) → refusal (by 10) at ≡ element s at (tag_here s at)
          → refusal (by 10) at ≡ cond b (element s at (tag_here s at)) (refusal (by 10) at)
      go true e = e
      go false e = refl

  -- a tag of two octets
  pub here_wide : get_or s at 0 % 32 ≡ 31 → get_or s (at + 1) 0 ≤ 0x7F → behind_tag s at 2 ≡ here s at
  unfolding here is_tag_here tag_here has_second is_second
  here_wide e h =
      let some : 1 ≤ get_or s at 0 = omega arith in
      rw (eq-eqb (get_or s at 0 % 32) 31 e, le-leb (get_or s (at + 1) 0) 0x7F h) (behind_two s at some)

  pub here_none : get_or s at 0 % 32 ≡ 31 → 0x7F < get_or s (at + 1) 0 → refusal (by 10) at ≡ here s at
  unfolding here is_tag_here tag_here has_second is_second
  here_none e h = rw (eq-eqb (get_or s at 0 % 32) 31 e, lt-leb (get_or s (at + 1) 0) 0x7F h)

  -- one of one octet
  pub here_one : (get_or s at 0 % 32 ≡ 31 → ⊥) → get_or s at 0 < 256 → behind_tag s at 1 ≡ here s at
  unfolding here is_tag_here tag_here has_second
  here_one e h = rw (ne_eqb (get_or s at 0 % 32) 31 e) (behind_one s at h)

  -- with a length of one
  pub here_short : (get_or s at 0 % 32 ≡ 31 → ⊥) → get_or s at 0 < 256 → get_or s (at + 1) 0 ≤ 0x7F
      → ends_within s at (at + 2) (at + 2 + get_or s (at + 1) 0) ≡ here s at
  unfolding behind_tag sized size_at size_of
  here_short e h k =
      let two : at + 1 + 1 ≡ at + 2 = omega arith in
      rw (le-leb (get_or s (at + 1) 0) 0x7F k, two) at (here_one e h)

  pub here_element : (v : Stretch) → here s at ≡ value v → (is_tag_here s at ≡ true) × (element s at (tag_here s at) ≡ value v)
  unfolding here
  here_element v e = kept_value (is_tag_here s at) (element s at (tag_here s at)) _ at v e

  pub here_within : (v : Stretch) → here s at ≡ value v → (at < v.from) × (v.from ≤ v.to) × (v.to ≤ length s)
  here_within v e = value_within s at (tag_here s at) v (here_element v e).1
