-- Tags that stand at a place: what they are by their first octet, and where they end.
use Prim.Native.Nat.{ℕ, ◌+◌, ◌*◌, ◌%◌, ◌<◌}
use mathlib.Core.Path.{◌≡◌}
use mathlib.Core.List.{List}
use native.Mathlib.Omega.{arith}
use borrow.Author.Tests.{eq-eqb, ne_eqb, lt-ltb, le-ltb}
use lib.ListN.{get_or}
use Rattle.tlv.specs.Element.{tag_width}
use Rattle.tree.specs.Tag.{has_second, tag_here}

module _ (s : List ℕ) (at : ℕ) where
  pub tag_wide : get_or s at 0 % 32 ≡ 31 → tag_here s at ≡ get_or s at 0 * 256 + get_or s (at + 1) 0
  unfolding tag_here has_second
  tag_wide e = rw (eq-eqb (get_or s at 0 % 32) 31 e)

  pub tag_one : (get_or s at 0 % 32 ≡ 31 → ⊥) → tag_here s at ≡ get_or s at 0
  unfolding tag_here has_second
  tag_one e = rw (ne_eqb (get_or s at 0 % 32) 31 e)

  pub width_wide : get_or s at 0 % 32 ≡ 31 → tag_width (tag_here s at) ≡ 2
  unfolding tag_width
  width_wide e =
      rw (tag_wide e, le-ltb (get_or s at 0 * 256 + get_or s (at + 1) 0) 256 (omega arith))

  pub width_one : (get_or s at 0 % 32 ≡ 31 → ⊥) → get_or s at 0 < 256 → tag_width (tag_here s at) ≡ 1
  unfolding tag_width
  width_one e h = rw (tag_one e, lt-ltb (get_or s at 0) 256 h)
