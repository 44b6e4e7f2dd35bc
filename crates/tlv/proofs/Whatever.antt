-- The element that stands at a place, whatever its tag, is the one with the tag that stands there.
use Prim.Native.Nat.{ℕ, ◌+◌, ◌*◌, ◌≤◌, ◌<◌}
use mathlib.Core.Path.{◌≡◌, refl}
use mathlib.Core.List.{List}
use native.Mathlib.Omega.{arith}
use borrow.Author.Tests.{lt-ltb, le-ltb, eq-eqb}
use lib.ListN.{get_or}
use Rattle.tlv.specs.Element.{tag_at, tag_width, behind_tag, element}

pub behind_one : (s : List ℕ) (at : ℕ) → get_or s at 0 < 256 → behind_tag s at 1 ≡ element s at (get_or s at 0)
unfolding behind_tag element tag_at tag_width
behind_one s at h = let a = get_or s at 0 in rw (lt-ltb a 256 h, eq-eqb a a refl)

pub behind_two : (s : List ℕ) (at : ℕ) → 1 ≤ get_or s at 0
    → behind_tag s at 2 ≡ element s at (get_or s at 0 * 256 + get_or s (at + 1) 0)
unfolding behind_tag element tag_at tag_width
behind_two s at h =
    let t = get_or s at 0 * 256 + get_or s (at + 1) 0 in
    rw (le-ltb t 256 (omega arith), eq-eqb t t refl)
